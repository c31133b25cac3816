use Rattle.rpki_der.specs.Extensions.{extension_format}
use Rattle.rpki_der.proofs.ExtensionReads.{extension_alone}
use Rattle.rpki_der.proofs.FormatAnswers.{alone_means}
use Rattle.rpki_ext.proofs.laws.one_extension.Goals as goal

pub returns : goal.returns
returns c = alone_means extension_format extension_alone
