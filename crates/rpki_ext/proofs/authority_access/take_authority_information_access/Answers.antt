use Rattle.rpki_der.proofs.FormatAnswers.{answers_or_memory_alone}
use Rattle.rpki_ext.specs.ExtensionKinds.{authority_information_access_format}
use Rattle.rpki_ext.proofs.CertificateExtensions.{authority_information_access_alone}
use Rattle.rpki_ext.proofs.authority_access.take_authority_information_access.Goals as goal

pub returns : goal.returns
returns c = answers_or_memory_alone (λ x. x) authority_information_access_format
    _ _ _ authority_information_access_alone c.read.ensures.octets c.read.ensures.reads c.read.ensures.keeps
