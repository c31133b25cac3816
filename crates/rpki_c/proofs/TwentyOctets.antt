-- The number of twenty octets.
use Rattle.std.specs.Int.Digits.{number_from_digits}
use Rattle.std.proofs.Common.{◌≡◌, ◌^◌, ◌<◌, ℕ, List, length, get_or, subst}
use Rattle.std.proofs.lemmas.Int.Digits.{number_lt}
use Rattle.rpki_der.proofs.Octets.{AreOctets-each}

pub twenty_below : (octets : List ℕ) → length octets ≡ 20 → ((i : ℕ) → get_or octets i 0 < 256) →
    number_from_digits 256 octets < 2 ^ 160
twenty_below octets twenty small =
    subst (λ (n : ℕ). number_from_digits 256 octets < 256 ^ n) twenty
    (number_lt 256 octets (AreOctets-each octets small))
