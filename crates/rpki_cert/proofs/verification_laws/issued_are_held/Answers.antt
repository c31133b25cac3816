use Rattle.rpki_cert.proofs.IssuedNumbers.{issued_in}
use Rattle.rpki_cert.proofs.verification_laws.issued_are_held.Goals as goal

pub returns : goal.returns
returns c = record {
  v4 = λ m issuer r h. issued_in issuer.v4 m.fields.extensions.v4_resources r.v4 h.v4_is;
  v6 = λ m issuer r h. issued_in issuer.v6 m.fields.extensions.v6_resources r.v6 h.v6_is;
  as_numbers = λ m issuer r h. issued_in issuer.as_numbers m.fields.extensions.as_resources r.as_numbers h.as_is;
}
