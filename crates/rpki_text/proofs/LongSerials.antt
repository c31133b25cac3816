-- A number of 160 bits whose INTEGER has an octet more.
use Rattle.std.specs.Int.Digits.{number_from_digits}
use Rattle.std.proofs.Common.{◌≡◌, ◌↔◌, ◌≤◌, ◌^◌, ◌*◌, ◌+◌, ◌<◌, ℕ, List, [], ◌∷◌, length, get_or, ap, subst, zero-add, arith}
use Rattle.std.proofs.lemmas.Int.Digits.{number_lt}
use Rattle.rpki_der.specs.Values.{AreOctets}
use Rattle.rpki_der.proofs.HighFirst.{number_behind}

by_first : (d n p whole : ℕ) → p ≡ 256 ^ 19 → whole ≡ d * p + n → n < p → (128 ≤ d) ↔ (2 ^ 159 ≤ whole)
by_first d n p whole worth is few =
    let at : whole ≡ d * 256 ^ 19 + n = subst (λ (q : ℕ). whole ≡ d * q + n) worth is in
    let under : n < 256 ^ 19 = subst (λ (q : ℕ). n < q) worth few in
    ((λ high. omega (arith, at, under, high)), (λ long. omega (arith, at, under, long)))

-- of 20 octets that is told by the first
pub long_by_first : (octets : List ℕ) → length octets ≡ 20 → AreOctets octets →
    (128 ≤ get_or octets 0 0) ↔ (2 ^ 159 ≤ number_from_digits 256 octets)
long_by_first [] size fits = absurd (omega (arith, size))
long_by_first (d ∷ ds) size fits =
    let rest : length ds ≡ 19 = omega (arith, size) in
    let worth : 256 ^ length ds ≡ 256 ^ 19 = ap (λ (n : ℕ). 256 ^ n) rest in
    let whole : number_from_digits 256 (d ∷ ds) ≡ d * 256 ^ length ds + number_from_digits 256 ds = rw zero-add (number_behind d ds) in
    let few : number_from_digits 256 ds < 256 ^ length ds = number_lt 256 ds fits.1 in
    by_first d (number_from_digits 256 ds) (256 ^ length ds) (number_from_digits 256 (d ∷ ds)) worth whole few
