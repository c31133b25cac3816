use Rattle.std.proofs.Common.{◌++◌, List, ℕ, refl, sym, ap, ◌∙◌}
use Rattle.rpki_der.specs.Values.{enc, IsEnc}
use Rattle.rpki_der.proofs.RoundTrips.{begins}
use Rattle.rpki_der.proofs.Values.{one_enc}
use Rattle.rpki_der.proofs.laws.value_again.Goals as goal

pub returns : goal.returns
returns c = record {
  read = λ t content rest octet low octets short. begins (IsEnc t) content (enc t content) rest
      (record { octet = octet; low_tag = low; octets = octets; short = short; is = refl });
  alone = λ t u content d rest tail b.
      let one = one_enc u t d content tail rest (ap (λ (x : List ℕ). x ++ tail) (sym b.encoded.is) ∙ sym b.parts) in
      (one.0, one.1, one.2);
}
