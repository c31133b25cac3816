use Rattle.rpki_cert.specs.Certificates.{CertFields, IsCertificate}
use Rattle.rpki_der.proofs.Answering.{front_means}
use Rattle.rpki_cert.proofs.cert.Cert.decode_shared.Goals as goal

pub returns : goal.returns
returns c = front_means (λ (x : CertFields). x) IsCertificate c.new-cursor.result c.take_from.new.cursor
    c.take_from.result c.args.octets c.new-cursor.ensures.all c.take_from.ensures.encoded
