use Rattle.std.proofs.Common.{refl}
use Rattle.rpki_der.specs.Skipping.{levels}
use Rattle.rpki_der.proofs.FormatLaws.{one_meaning}
use Rattle.rpki_cert.specs.Certificates.{certificate_format, tbs_format}
use Rattle.rpki_cert.proofs.CertificateFormats.{certificate_lawful, tbs_lawful}
use Rattle.rpki_cert.proofs.laws.unambiguous.Goals as goal

pub returns-clause-certificate : goal.returns-clause-certificate
returns-clause-certificate c = one_meaning (certificate_format levels) refl certificate_lawful

pub returns-clause-data : goal.returns-clause-data
returns-clause-data c = one_meaning (tbs_format levels) refl tbs_lawful
