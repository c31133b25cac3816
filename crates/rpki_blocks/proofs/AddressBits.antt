-- The zero and the one bits at the foot of an address.
use Rattle.std.proofs.Common.{◌≡◌, ℕ, zero, suc, ◌+◌, ◌-◌, ◌*◌, ◌/◌, ◌%◌, ◌^◌, ◌<◌, ◌≤◌, min, Bool, true, false, refl}
use Rattle.std.proofs.Common.{sym, ap, subst, ◌∙◌, arith, inl, inr}
use Rattle.std.specs.Prelude.{◌==◌}
use Rattle.std.specs.Int.{w128, trailing_zeros, trailing_ones, bit_at}
use Rattle.std.specs.Int.Count.{trailing_of_zero}
use Rattle.std.proofs.lemmas.Bool.{cases_lt, eqb-true, eq-eqb, and_parts, and_from, cases_Bool, false_from_ne_true}
use Rattle.std.proofs.lemmas.Nat.{pow-add, pow_pos, pow_below, mod-pow-add}
use Rattle.std.proofs.lemmas.Nat.Bits.{bit_at-trailing_zeros}
use Rattle.std.proofs.Math.Nat.{mul-mod_left, mod-eq-zero_of_dvd, dvd_of_mod-eq-zero, dvd_trans, dvd-add, dvd-sub, le_of_dvd}
use Rattle.rpki_blocks.specs.Sets.{Block}
use Rattle.rpki_blocks.specs.AddressBits.{greatest, zero_bits, one_bits, is_prefix, prefix_bits}

-- the greatest number that passes does pass, where 0 does
pub greatest_passes : (test : ℕ → Bool) (n : ℕ) → test 0 ≡ true → test (greatest test n) ≡ true
unfolding greatest
greatest_passes test zero h = h
greatest_passes test (suc n) h =
    elim (cases_Bool (test (suc n))) [
      | inl t ↦ let is : greatest test (suc n) ≡ suc n = rw t in subst (λ (k : ℕ). test k ≡ true) (sym is) t
      | inr f ↦ let is : greatest test (suc n) ≡ greatest test n = rw f in
          subst (λ (k : ℕ). test k ≡ true) (sym is) (greatest_passes test n h)
    ]

-- the greatest number that passes is within its bound
pub greatest_le : (test : ℕ → Bool) (n : ℕ) → greatest test n ≤ n
unfolding greatest
greatest_le test zero = omega arith
greatest_le test (suc n) =
    elim (cases_Bool (test (suc n))) [
      | inl t ↦ let is : greatest test (suc n) ≡ suc n = rw t in omega (arith, is)
      | inr f ↦ let is : greatest test (suc n) ≡ greatest test n = rw f in omega (arith, is, greatest_le test n)
    ]

-- the greatest number that passes isn't below another one that does
pub greatest_above : (test : ℕ → Bool) (n k : ℕ) → test k ≡ true → k ≤ n → k ≤ greatest test n
unfolding greatest
greatest_above test zero k h le = le
greatest_above test (suc n) k h le =
    elim (cases_Bool (test (suc n))) [
      | inl t ↦ let is : greatest test (suc n) ≡ suc n = rw t in omega (arith, is)
      | inr f ↦
          let is : greatest test (suc n) ≡ greatest test n = rw f in
          elim (cases_lt n k) [
            | inl lt ↦ let same : k ≡ suc n = omega arith in
                absurd (let both : true ≡ false = sym (subst (λ (j : ℕ). test j ≡ true) same h) ∙ f in cc)
            | inr small ↦ omega (arith, is, greatest_above test n k h small)
          ]
    ]

-- the greatest number that passes does pass, where any does
pub greatest_found : (test : ℕ → Bool) (n k : ℕ) → test k ≡ true → k ≤ n → test (greatest test n) ≡ true
unfolding greatest
greatest_found test zero k h le = let same : k ≡ 0 = omega arith in subst (λ (j : ℕ). test j ≡ true) same h
greatest_found test (suc n) k h le =
    elim (cases_Bool (test (suc n))) [
      | inl t ↦ let is : greatest test (suc n) ≡ suc n = rw t in subst (λ (j : ℕ). test j ≡ true) (sym is) t
      | inr f ↦
          let is : greatest test (suc n) ≡ greatest test n = rw f in
          elim (cases_lt n k) [
            | inl lt ↦ let same : k ≡ suc n = omega arith in
                absurd (let both : true ≡ false = sym (subst (λ (j : ℕ). test j ≡ true) same h) ∙ f in cc)
            | inr small ↦ subst (λ (j : ℕ). test j ≡ true) (sym is) (greatest_found test n k h small)
          ]
    ]

-- the greatest number that passes, where none above it does
pub greatest_is : (test : ℕ → Bool) (n k : ℕ) → test 0 ≡ true → test k ≡ true → k ≤ n →
    ((j : ℕ) → k < j → j ≤ n → test j ≡ true → ⊥) → greatest test n ≡ k
greatest_is test n k first h le above =
    let low = greatest_above test n k h le in
    elim (cases_lt k (greatest test n)) [
      | inl lt ↦ absurd (above (greatest test n) lt (greatest_le test n) (greatest_passes test n first))
      | inr same ↦ omega arith
    ]

-- ---- multiples of powers of 2

zero_sum : (a b p : ℕ) → a ≡ 0 → b ≡ 0 → a * p + b ≡ 0
zero_sum a b p e f = rw (e, f) (omega arith)

-- the bits below a place are 0
divides_below : (n k : ℕ) → ((i : ℕ) → i < k → bit_at n i ≡ 0) → n % 2 ^ k ≡ 0
divides_below n zero h = omega arith
divides_below n (suc k) h =
    let e : suc k ≡ 1 + k = omega arith in
    let low = divides_below n k (λ i l. h i (omega arith)) in
    let bit : n / 2 ^ k % 2 ≡ 0 = h k (omega arith) in
    ap (λ (j : ℕ). n % 2 ^ j) e ∙ mod-pow-add n 1 k ∙ zero_sum (n / 2 ^ k % 2) (n % 2 ^ k) (2 ^ k) bit low

-- a power divides each greater one
pub power_divides : (k j : ℕ) → k ≤ j → 2 ^ j % 2 ^ k ≡ 0
power_divides k j le =
    let e : j ≡ j - k + k = omega arith in
    ap (λ (i : ℕ). 2 ^ i % 2 ^ k) e ∙ ap (λ (i : ℕ). i % 2 ^ k) (pow-add 2 (j - k) k) ∙ mul-mod_left (2 ^ (j - k)) (2 ^ k)

-- a multiple of a power is one of each lesser power
pub divides_less : (n j k : ℕ) → k ≤ j → n % 2 ^ j ≡ 0 → n % 2 ^ k ≡ 0
divides_less n j k le h =
    mod-eq-zero_of_dvd (2 ^ k)
    (dvd_trans (2 ^ k) (dvd_of_mod-eq-zero (2 ^ k) (power_divides k j le)) (dvd_of_mod-eq-zero (2 ^ j) h))

-- a sum of multiples is one
pub divides_sum : (m n k : ℕ) → m % k ≡ 0 → n % k ≡ 0 → (m + n) % k ≡ 0
divides_sum m n k p q = mod-eq-zero_of_dvd k (dvd-add k (dvd_of_mod-eq-zero k p) (dvd_of_mod-eq-zero k q))

divides_difference : (m n k : ℕ) → m % k ≡ 0 → n % k ≡ 0 → (m - n) % k ≡ 0
divides_difference m n k p q = mod-eq-zero_of_dvd k (dvd-sub k (dvd_of_mod-eq-zero k p) (dvd_of_mod-eq-zero k q))

power_order : (k j : ℕ) → 2 ^ j % 2 ^ k ≡ 0 → k ≤ j
power_order k j h =
    let le : 2 ^ k ≤ 2 ^ j = le_of_dvd (pow_pos j) (dvd_of_mod-eq-zero (2 ^ k) h) in
    elim (cases_lt j k) [
      | inl lt ↦ absurd (omega (arith, pow_below j k lt))
      | inr ge ↦ ge
    ]

-- ---- bits at the foot

zero_test : (n k : ℕ) → n % 2 ^ k ≡ 0 → (n % 2 ^ k == 0) ≡ true
zero_test n k h = eq-eqb _ _ h

-- a number is divisible by the power of its zero bits
pub zeros_divide : (n : ℕ) → n % 2 ^ zero_bits n ≡ 0
zeros_divide n = eqb-true _ _ (greatest_passes (λ last. n % 2 ^ last == 0) 128 (zero_test n 0 (omega arith)))

-- the number after it is divisible by the power of its one bits
pub ones_divide : (n : ℕ) → (n + 1) % 2 ^ one_bits n ≡ 0
ones_divide n = eqb-true _ _ (greatest_passes (λ last. (n + 1) % 2 ^ last == 0) 128 (zero_test (n + 1) 0 (omega arith)))

no_more : (n t j : ℕ) → bit_at n t ≡ 1 → t < j → n % 2 ^ j ≡ 0 → ⊥
no_more n t j bit less h =
    let low = divides_less n j t (omega arith) h in
    let here = divides_less n j (1 + t) (omega arith) h in
    let parts : (n / 2 ^ t % 2) * 2 ^ t + n % 2 ^ t ≡ 0 = sym (mod-pow-add n 1 t) ∙ here in
    omega (arith, pow_pos t, subst (λ (b : ℕ). b * 2 ^ t + n % 2 ^ t ≡ 0) bit parts)

-- the zero bits are counted as the machine counts them
pub trailing_zeros_are : (n : ℕ) → n < 2 ^ 128 → trailing_zeros w128 n ≡ zero_bits n
trailing_zeros_are n small =
    elim (cases_lt 0 n) [
      | inl some ↦
          let t = bit_at-trailing_zeros w128 n some small in
          sym (greatest_is (λ last. n % 2 ^ last == 0) 128 (trailing_zeros w128 n) (zero_test n 0 (omega arith))
          (zero_test n _ (divides_below n (trailing_zeros w128 n) t.2)) (omega (arith, t.0))
          (λ j less le passes. no_more n (trailing_zeros w128 n) j t.1 less (eqb-true _ _ passes)))
      | inr none ↦
          let is : n ≡ 0 = omega arith in
          ap (trailing_zeros w128) is ∙ trailing_of_zero 128 ∙
          sym (greatest_is (λ last. 0 % 2 ^ last == 0) 128 128 refl refl (omega arith)
          (λ j less le passes. omega arith)) ∙ ap zero_bits (sym is)
    ]

-- the zero bits of the address at the other end are the one bits of this one
complement_ends : (n k : ℕ) → n < 2 ^ 128 → k ≤ 128 → ((2 ^ 128 - 1 - n) % 2 ^ k ≡ 0 → (n + 1) % 2 ^ k ≡ 0) ×
    ((n + 1) % 2 ^ k ≡ 0 → (2 ^ 128 - 1 - n) % 2 ^ k ≡ 0)
complement_ends n k small le =
    let whole = power_divides k 128 le in
    let up : n + 1 ≡ 2 ^ 128 - (2 ^ 128 - 1 - n) = omega arith in
    let down : 2 ^ 128 - 1 - n ≡ 2 ^ 128 - (n + 1) = omega arith in (
      λ h. ap (λ (m : ℕ). m % 2 ^ k) up ∙ divides_difference (2 ^ 128) (2 ^ 128 - 1 - n) (2 ^ k) whole h,
      λ h. ap (λ (m : ℕ). m % 2 ^ k) down ∙ divides_difference (2 ^ 128) (n + 1) (2 ^ k) whole h,
    )

-- the one bits are counted as the machine counts them
pub trailing_ones_are : (n : ℕ) → n < 2 ^ 128 → trailing_ones w128 n ≡ one_bits n
trailing_ones_are n small =
    let m : ℕ = 2 ^ 128 - 1 - n in
    let zeros : trailing_ones w128 n ≡ zero_bits (2 ^ 128 - 1 - n) = trailing_zeros_are (2 ^ 128 - 1 - n) (omega arith) in
    let most = greatest_le (λ last. (2 ^ 128 - 1 - n) % 2 ^ last == 0) 128 in
    zeros ∙ sym (greatest_is (λ last. (n + 1) % 2 ^ last == 0) 128 (zero_bits (2 ^ 128 - 1 - n))
    (zero_test (n + 1) 0 (omega arith))
    (zero_test (n + 1) (zero_bits (2 ^ 128 - 1 - n))
    ((complement_ends n (zero_bits (2 ^ 128 - 1 - n)) small most).0 (zeros_divide (2 ^ 128 - 1 - n)))) most
    (λ j less le passes.
    let above = greatest_above (λ last. (2 ^ 128 - 1 - n) % 2 ^ last == 0) 128 j
    (zero_test (2 ^ 128 - 1 - n) j ((complement_ends n j small le).1 (eqb-true _ _ passes))) le in
    omega arith))

-- an address has at most 128 zero bits
pub zero_bits_le : (n : ℕ) → zero_bits n ≤ 128
zero_bits_le n = greatest_le (λ last. n % 2 ^ last == 0) 128

-- an address has at most 128 one bits
pub one_bits_le : (n : ℕ) → one_bits n ≤ 128
one_bits_le n = greatest_le (λ last. (n + 1) % 2 ^ last == 0) 128

-- ---- prefixes

-- the block is a prefix with so many last bits open
pub record IsPrefixBy (b : Block) (last : ℕ) : Type 0 where
  pub zeros : b.min % 2 ^ last ≡ 0
  pub size : b.max + 1 ≡ b.min + 2 ^ last

-- what the test says
pub prefix_parts : (b : Block) (last : ℕ) → is_prefix b last ≡ true → IsPrefixBy b last
prefix_parts b last h = let r = and_parts _ _ h in record { zeros = eqb-true _ _ r.0; size = eqb-true _ _ r.1 }

prefix_test : (b : Block) (last : ℕ) → IsPrefixBy b last → is_prefix b last ≡ true
prefix_test b last p = and_from _ _ (eq-eqb _ _ p.zeros) (eq-eqb _ _ p.size)

-- how many last bits may be open: zeros of the lower end and ones of the upper end
abbrev pub foot : Block → ℕ
foot b = min (zero_bits b.min) (one_bits b.max)

-- a block is a prefix at one place only
only_foot : (b : Block) (last : ℕ) → last ≤ 128 → IsPrefixBy b last → last ≡ foot b
only_foot b last le p =
    let zeros = greatest_above (λ k. b.min % 2 ^ k == 0) 128 last (zero_test b.min last p.zeros) le in
    let upper : (b.max + 1) % 2 ^ last ≡ 0 = ap (λ (m : ℕ). m % 2 ^ last) p.size ∙
    divides_sum b.min (2 ^ last) (2 ^ last) p.zeros (power_divides last last (omega arith)) in
    let ones = greatest_above (λ k. (b.max + 1) % 2 ^ k == 0) 128 last (zero_test (b.max + 1) last upper) le in
    let low = divides_less b.min (zero_bits b.min) (foot b) (omega arith) (zeros_divide b.min) in
    let high = divides_less (b.max + 1) (one_bits b.max) (foot b) (omega arith) (ones_divide b.max) in
    let size : b.max + 1 - b.min ≡ 2 ^ last = omega (arith, p.size) in
    let most = power_order (foot b) last
    (ap (λ (m : ℕ). m % 2 ^ foot b) (sym size) ∙ divides_difference (b.max + 1) b.min (2 ^ foot b) high low) in
    omega arith

-- so its last bits are the greatest that pass
pub one_prefix : (b : Block) (last : ℕ) → last ≤ 128 → IsPrefixBy b last → prefix_bits b ≡ last
one_prefix b last le p = only_foot b (prefix_bits b) (greatest_le (is_prefix b) 128)
    (prefix_parts b _ (greatest_found (is_prefix b) 128 last (prefix_test b last p) le)) ∙
    sym (only_foot b last le p)

-- a block as large as its open bits is a prefix with these bits open
pub prefix_yes : (b : Block) → b.min ≤ b.max → b.max - b.min ≡ 2 ^ foot b - 1 →
    (is_prefix b (prefix_bits b) ≡ true) × (prefix_bits b ≡ foot b)
prefix_yes b order size =
    let most : foot b ≤ 128 = omega (arith, greatest_le (λ k. b.min % 2 ^ k == 0) 128) in
    let low = divides_less b.min (zero_bits b.min) (foot b) (omega arith) (zeros_divide b.min) in
    let here = prefix_test b (foot b) (record { zeros = low; size = omega (arith, size, pow_pos (foot b)) }) in
    let first = greatest_found (is_prefix b) 128 (foot b) here most in
    (first, only_foot b (prefix_bits b) (greatest_le (is_prefix b) 128) (prefix_parts b _ first))

-- a block of another size is no prefix
pub prefix_no : (b : Block) → b.min ≤ b.max → (b.max - b.min ≡ 2 ^ foot b - 1 → ⊥) → is_prefix b (prefix_bits b) ≡ false
prefix_no b order other =
    false_from_ne_true _ (λ h.
    let p = prefix_parts b (prefix_bits b) h in
    let same = only_foot b (prefix_bits b) (greatest_le (is_prefix b) 128) p in
    let size : b.max + 1 ≡ b.min + 2 ^ foot b = subst (λ (k : ℕ). b.max + 1 ≡ b.min + 2 ^ k) same p.size in
    other (omega (arith, pow_pos (foot b))))
