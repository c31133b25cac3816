-- The size of a number, by its octets.
use Rattle.std.specs.Int.Digits.{number_from_digits}
use Rattle.std.proofs.Common.{◌≡◌, ℕ, suc, ◌+◌, ◌-◌, ◌*◌, ◌%◌, ◌^◌, ◌<◌, ◌≤◌, ◌↔◌, IsTrue, eqb, List, [], ◌∷◌, length}
use Rattle.std.proofs.Common.{get_or, refl, sym, ◌∙◌, arith, inl, inr}
use Rattle.std.proofs.Math.Nat.{mul-le-mul_right, pow-suc}
use Rattle.std.proofs.Math.Pow.{pow_mono}
use Rattle.std.proofs.lemmas.Bool.{cases_lt, eqb-true, eq-eqb}
use Rattle.std.proofs.lemmas.Nat.{pow-add}
use Rattle.rpki_der.specs.Primitives.{IsInteger}
use Rattle.rpki_der.specs.Values.{AreOctets}
use Rattle.rpki_der.proofs.PrimitiveReads.{last_octet}
use Rattle.rpki_keys.specs.Octets.{os2ip}
use Rattle.rpki_keys.proofs.OctetNumbers.{pow-256, os2ip-below, os2ip-digits, first-high}
use Rattle.rpki_keys.specs.KeyForms.{HasBits}

-- ---- whether it is odd

-- the last octet tells it
pub odd-iff : (octets : List ℕ) → 0 < length octets
    → IsTrue (eqb (get_or octets (length octets - 1) 0 % 2) 1) ↔ (number_from_digits 256 octets % 2 ≡ 1)
odd-iff octets some =
    let last : number_from_digits 256 octets % 2 ≡ get_or octets (length octets - 1) 0 % 2 = last_octet 1 octets (omega arith) some in
    (λ t. last ∙ eqb-true _ 1 t, λ e. eq-eqb _ 1 (sym last ∙ e))

-- a number that isn't odd is even
pub not-odd : (n : ℕ) → (n % 2 ≡ 1 → ⊥) → n % 2 ≡ 0
not-odd n other = omega (arith, other)

-- ---- how many digits it has

-- the content of a positive number begins with a 0 only before an octet of 80 or more
zero-bits : (content : List ℕ) (k : ℕ) → length content ≡ suc k → AreOctets content → IsInteger content →
    get_or content 0 0 ≡ 0 → 0 < os2ip content
    → HasBits (os2ip content) (8 * k)
unfolding os2ip
zero-bits [] k l octets shortest zero some = absurd (omega arith)
zero-bits (x ∷ []) k l octets shortest zero some = absurd (omega arith)
zero-bits (x ∷ y ∷ ys) k l octets shortest zero some =
    let high : 128 * 256 ^ length ys ≤ os2ip (y ∷ ys) = first-high (y ∷ ys) (length ys) refl (shortest.0 zero) in
    let none : x * 256 ^ length (y ∷ ys) ≡ 0 = rw zero (omega arith) in
    let same : os2ip (x ∷ y ∷ ys) ≡ os2ip (y ∷ ys) = omega arith in
    let count : k ≡ suc (length ys) = omega arith in
    let power : 2 ^ (8 * k) ≡ 256 ^ length ys * 256 = rw (count, ← pow-256 (suc (length ys))) (pow-suc 256 (length ys)) in
    let below : os2ip (y ∷ ys) < 256 ^ suc (length ys) = os2ip-below (y ∷ ys) octets.1 in
    record {
      below = rw (same, power, ← pow-suc 256 (length ys)) below;
      least = rw same (omega arith);
    }

-- another first octet adds as many digits as it has
some-bits : (content : List ℕ) (k log : ℕ) → length content ≡ suc k → AreOctets content →
    2 ^ log ≤ get_or content 0 0 → get_or content 0 0 < 2 * 2 ^ log
    → HasBits (os2ip content) (8 * k + log + 1)
unfolding os2ip
some-bits [] k log l octets low high = absurd (omega arith)
some-bits (x ∷ xs) k log l octets low high =
    let count : length xs ≡ k = omega arith in
    let power : 2 ^ (8 * k + log + 1) ≡ (2 * 2 ^ log) * 256 ^ k =
    pow-add 2 (8 * k + log) 1 ∙ (rw (pow-add 2 (8 * k) log, ← pow-256 k) (omega arith)) in
    let next : x + 1 ≤ 2 * 2 ^ log = omega arith in
    let above : (x + 1) * 256 ^ k ≤ (2 * 2 ^ log) * 256 ^ k = mul-le-mul_right (256 ^ k) next in
    let least : 2 ^ log * 256 ^ k ≤ x * 256 ^ k = mul-le-mul_right (256 ^ k) low in
    let rest : os2ip xs < 256 ^ k = rw count at (os2ip-below xs octets.1) in
    record {
      below = rw (power, count) (omega arith);
      least = rw (power, count) (omega arith);
    }

-- digits of base 256 are octets
as-digits : {count : ℕ} (content : List ℕ) → HasBits (os2ip content) count → HasBits (number_from_digits 256 content) count
as-digits content h = rw os2ip-digits at h

pub zero-digits : (content : List ℕ) (k : ℕ) → length content ≡ suc k → AreOctets content → IsInteger content →
    get_or content 0 0 ≡ 0 → 0 < number_from_digits 256 content
    → HasBits (number_from_digits 256 content) (8 * k)
zero-digits content k l octets shortest zero some = as-digits content (zero-bits content k l octets shortest zero (rw os2ip-digits some))

pub some-digits : (content : List ℕ) (k log : ℕ) → length content ≡ suc k → AreOctets content →
    2 ^ log ≤ get_or content 0 0 → get_or content 0 0 < 2 * 2 ^ log
    → HasBits (number_from_digits 256 content) (8 * k + log + 1)
some-digits content k log l octets low high = as-digits content (some-bits content k log l octets low high)

-- an INTEGER has content
pub some-content : (content : List ℕ) → IsInteger content → 0 < length content
some-content [] i = absurd i
some-content (x ∷ xs) i = omega arith

few-more : (n k j : ℕ) → n < 2 ^ k → 2 ^ j ≤ 2 * n → j ≤ k
few-more n k j below least = elim (cases_lt k j) [
  | inl less ↦
      let le : k + 1 ≤ j = omega arith in
      let most : 2 ^ (k + 1) ≤ 2 ^ j = pow_mono le in
      absurd (omega (arith, pow-add 2 k 1))
  | inr same ↦ same
]

-- a number has one count of digits
pub one-count : (n k j : ℕ) → HasBits n k → HasBits n j → k ≡ j
one-count n k j g h =
    let one : j ≤ k = few-more n k j g.below h.least in
    let other : k ≤ j = few-more n j k h.below g.least in
    omega arith
