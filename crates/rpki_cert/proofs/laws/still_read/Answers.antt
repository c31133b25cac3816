use Rattle.std.proofs.Common.{arith}
use Rattle.rpki_cert.proofs.DeeperCertificates.{deeper_certificate}
use Rattle.rpki_cert.proofs.laws.still_read.Goals as goal

pub returns-clause-general : goal.returns-clause-general
returns-clause-general c d e cert b le h = deeper_certificate d e le cert b h

pub returns-clause-to_32 : goal.returns-clause-to_32
returns-clause-to_32 c cert octets rest h =
    record { text = h.text; encoded = deeper_certificate 16 32 (omega arith) cert h.text h.encoded; parts = h.parts }
