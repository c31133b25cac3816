use Rattle.rpki_cert.proofs.CertificateFormats.{certificate_is}
use Rattle.rpki_cert.proofs.laws.octets_are_kept.Goals as goal

pub returns : goal.returns
returns c = certificate_is
