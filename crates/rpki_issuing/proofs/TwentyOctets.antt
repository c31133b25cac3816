-- Numbers that have at most 20 octets as the content of an INTEGER: those below 2^159.
use Rattle.std.specs.Prelude.{Bool, false, cond, nat_lt, IsTrue}
use Rattle.std.specs.Int.Digits.{AllBelowBase, digits_of, number_from_digits, number_from_digits_after}
use Rattle.std.proofs.Common.{◌≡◌, ◌<◌, ◌≤◌, ◌^◌, ◌+◌, ◌*◌, ℕ, List, [], ◌∷◌, length, get_or, sym, ap, subst, ◌∙◌}
use Rattle.std.proofs.Common.{inl, inr, arith}
use Rattle.std.proofs.Math.Nat.{pow-le-pow_right, mul-le-mul}
use Rattle.std.proofs.lemmas.Bool.{cases_Bool, ltb-true, ltb-false}
use Rattle.std.proofs.lemmas.Int.Digits.{length-digits_of-le, number_digits_of, number_lt, number_after_lt}
use Rattle.std.proofs.lemmas.Int.Digits.{all_below_base_digits_of}
use Rattle.rpki_der.specs.Primitives.{unsigned}
use Rattle.rpki_der.proofs.HighFirst.{number_behind}

-- one octet in front
one_first : (d : ℕ) (ds : List ℕ) → number_from_digits 256 (d ∷ ds) ≡ number_from_digits_after 256 d ds
one_first d ds = ap (λ n. number_from_digits_after 256 n ds) (omega arith)

-- a first octet below 128, with at most 19 behind it
pub low_first : (d : ℕ) (ds : List ℕ) → AllBelowBase 256 ds → d < 128 → length ds ≤ 19 →
    number_from_digits 256 (d ∷ ds) < 2 ^ 159
low_first d ds base low few =
    let below : number_from_digits_after 256 d ds < (d + 1) * 256 ^ length ds = number_after_lt 256 d ds base in
    let next : d + 1 ≤ 128 = omega (arith, low) in
    let grows : (d + 1) * 256 ^ length ds ≤ 128 * 256 ^ 19 = mul-le-mul next (pow-le-pow_right (omega arith) few) in
    omega (arith, one_first d ds, below, grows)

-- a first octet of 128 or more, with 19 behind it
pub high_first : (d : ℕ) (ds : List ℕ) → 128 ≤ d → length ds ≡ 19 → 2 ^ 159 ≤ number_from_digits 256 (d ∷ ds)
high_first d ds high many =
    let is : number_from_digits 256 (d ∷ ds) ≡ d * 256 ^ length ds + number_from_digits 256 ds = one_first d ds ∙
    number_behind d ds in
    let power : 256 ^ length ds ≡ 256 ^ 19 = ap (λ k. 256 ^ k) many in
    let whole : number_from_digits 256 (d ∷ ds) ≡ d * 256 ^ 19 + number_from_digits 256 ds =
    is ∙ ap (λ p. d * p + number_from_digits 256 ds) power in
    omega (arith, whole, high)

-- one of 128 or more in front of a number that is small
few_behind : (d : ℕ) (ds : List ℕ) → 128 ≤ d → length ds ≤ 19 → number_from_digits 256 (d ∷ ds) < 2 ^ 159 →
    length ds ≤ 18
few_behind d ds high few low = elim (cases_Bool (nat_lt (length ds) 19)) [
  | inl on ↦ omega (arith, ltb-true (length ds) 19 on)
  | inr off ↦ absurd (omega (arith, low, high_first d ds high (omega (arith, few, ltb-false (length ds) 19 off))))
]

to_short : (ds : List ℕ) → AllBelowBase 256 ds → length ds ≤ 20 → number_from_digits 256 ds < 2 ^ 159 →
    length (unsigned ds) ≤ 20
to_short [] base few low = omega arith
to_short (d ∷ ds) base few low = elim (cases_Bool (nat_lt d 128)) [
  | inl on ↦ subst (λ (b : Bool). length (cond b (d ∷ ds) (0 ∷ d ∷ ds)) ≤ 20) (sym on) few
  | inr off ↦ subst (λ (b : Bool). length (cond b (d ∷ ds) (0 ∷ d ∷ ds)) ≤ 20) (sym off) (behind off)
]
  where
    behind : nat_lt d 128 ≡ false → length (0 ∷ d ∷ ds) ≤ 20
    behind off = omega (arith, few_behind d ds (ltb-false d 128 off) (omega (arith, few)) low)

from_short : (ds : List ℕ) → AllBelowBase 256 ds → length (unsigned ds) ≤ 20 → number_from_digits 256 ds < 2 ^ 159
from_short [] base few = omega arith
from_short (d ∷ ds) base few = elim (cases_Bool (nat_lt d 128)) [
  | inl on ↦ low_first d ds base.1 (ltb-true d 128 on)
      (omega (arith, subst (λ (b : Bool). length (cond b (d ∷ ds) (0 ∷ d ∷ ds)) ≤ 20) on few))
  | inr off ↦
      let short : length (0 ∷ d ∷ ds) ≤ 20 = subst (λ (b : Bool). length (cond b (d ∷ ds) (0 ∷ d ∷ ds)) ≤ 20) off few in
      let below : number_from_digits 256 (d ∷ ds) < 256 ^ length (d ∷ ds) = number_lt 256 (d ∷ ds) base in
      let shorter : length (d ∷ ds) ≤ 19 = omega (arith, short) in
      let grows : 256 ^ length (d ∷ ds) ≤ 256 ^ 19 = pow-le-pow_right (omega arith) shorter in
      omega (arith, below, grows)
]

-- a number of so many octets as an INTEGER
pub short_number : (n : ℕ) → n < 2 ^ 159 → length (unsigned (digits_of 256 n)) ≤ 20
short_number n low =
    let is = number_digits_of 256 n (omega arith) in
    to_short (digits_of 256 n) (all_below_base_digits_of 256 n (omega arith))
    (length-digits_of-le 256 20 n (omega arith) (omega (arith, low))) (omega (arith, is, low))

pub number_short : (n : ℕ) → length (unsigned (digits_of 256 n)) ≤ 20 → n < 2 ^ 159
number_short n few =
    let is = number_digits_of 256 n (omega arith) in
    omega (arith, is, from_short (digits_of 256 n) (all_below_base_digits_of 256 n (omega arith)) few)

-- the first bit of 20 octets
pub first_low : (ds : List ℕ) → AllBelowBase 256 ds → length ds ≡ 20 → IsTrue (nat_lt (get_or ds 0 0) 128) →
    number_from_digits 256 ds < 2 ^ 159
first_low [] base long low = absurd (omega (arith, long))
first_low (d ∷ ds) base long low = low_first d ds base.1 (ltb-true d 128 low) (omega (arith, long))

pub low_first_bit : (ds : List ℕ) → length ds ≡ 20 → number_from_digits 256 ds < 2 ^ 159 →
    IsTrue (nat_lt (get_or ds 0 0) 128)
low_first_bit [] long low = absurd (omega (arith, long))
low_first_bit (d ∷ ds) long low = elim (cases_Bool (nat_lt d 128)) [
  | inl on ↦ on
  | inr off ↦ absurd (omega (arith, low, high_first d ds (ltb-false d 128 off) (omega (arith, long))))
]
