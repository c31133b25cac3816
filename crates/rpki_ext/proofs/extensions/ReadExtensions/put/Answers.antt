use Rattle.std.proofs.Common.{refl}
use Rattle.rpki_der.proofs.Answering.{certainly}
use Rattle.rpki_der.specs.Extensions.Views.{extension_view}
use Rattle.rpki_ext.proofs.CertificateExtensions.{rejected}
use Rattle.rpki_ext.proofs.extensions.ReadExtensions.put.Goals as goal

pub returns-in-Err : goal.returns-in-Err
returns-in-Err c = certainly c.in-Err.error (rejected _ _ _ _ _ c.in-Some.ensures c.in-Err.ensures.rejected)

pub returns : goal.returns
returns c = c.take.ensures (extension_view c.args.extension) c.in-Some.ensures c.in_default-check.ensures.flag
    c.in_default-check.ensures.first refl
