use Rattle.std.proofs.Common.{refl}
use Rattle.rpki_der.specs.Skipping.{levels}
use Rattle.rpki_der.proofs.FormatAnswers.{answers_or_memory_lawful}
use Rattle.rpki_cert.specs.Certificates.{TbsFields, tbs_format}
use Rattle.rpki_cert.proofs.CertificateFormats.{tbs_lawful}
use Rattle.rpki_cert.proofs.tbs.TbsCert.from_constructed.Goals as goal

pub returns : goal.returns
returns c = answers_or_memory_lawful (λ (t : TbsFields). t) (tbs_format levels) _ _ _ refl tbs_lawful
    c.read.ensures.octets c.read.ensures.reads c.read.ensures.keeps
