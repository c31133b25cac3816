use Rattle.rpki_der.proofs.FormatAnswers.{answers_or_memory_alone}
use Rattle.rpki_ext.specs.ExtensionKinds.{extended_key_usage_format}
use Rattle.rpki_ext.proofs.CertificateExtensions.{extended_key_usage_alone}
use Rattle.rpki_ext.proofs.extended_key_usage.ExtendedKeyUsage.take_from.Goals as goal

pub returns : goal.returns
returns c = answers_or_memory_alone (λ x. x) extended_key_usage_format _ _ _ extended_key_usage_alone
    c.read.ensures.octets c.read.ensures.reads c.read.ensures.keeps
