use Rattle.std.proofs.Common.{refl}
use Rattle.rpki_der.specs.Skipping.{levels}
use Rattle.rpki_der.proofs.FormatAnswers.{answers_or_memory_lawful}
use Rattle.rpki_cert.specs.Certificates.{CertFields, certificate_format}
use Rattle.rpki_cert.proofs.CertificateFormats.{certificate_lawful}
use Rattle.rpki_cert.proofs.cert.Cert.take_from.Goals as goal

pub returns : goal.returns
returns c = answers_or_memory_lawful (λ (x : CertFields). x) (certificate_format levels) _ _ _ refl certificate_lawful
    c.read.ensures.octets c.read.ensures.reads c.read.ensures.keeps
