-- Addresses that begin with some bits.
use Rattle.std.specs.Int.Digits.{number_from_digits}
use Rattle.std.proofs.Common.{◌≡◌, ℕ, zero, suc, ◌+◌, ◌-◌, ◌*◌, ◌/◌, ◌%◌, ◌^◌, ◌<◌, ◌≤◌, List, [], ◌∷◌, length, refl}
use Rattle.std.proofs.Common.{sym, ap, subst, ◌∙◌, arith}
use Rattle.std.proofs.lemmas.Nat.{pow_pos, pow-add, one_shl}
use Rattle.std.proofs.Math.Nat.{pow-suc, mul-lt-mul_of_pos_right, mul-div_cancel, mul_assoc, mul_comm, div-add-mod}
use Rattle.std.proofs.Math.Pow.{pow_mono}
use Rattle.rpki_blocks.specs.Sets.{Block}
use Rattle.rpki_blocks.specs.Prefixes.{IsPrefixBlock}
use Rattle.rpki_blocks.specs.Addresses.{lower, upper}
use Rattle.rpki_blocks.proofs.Prefixes.{prefix_fits}

-- n octets are 8n bits
pub octets_bits : (n : ℕ) → 256 ^ n ≡ 2 ^ (8 * n)
octets_bits zero = refl
octets_bits (suc n) =
    let more : 8 * suc n ≡ 8 * n + 8 = omega arith in
    pow-suc 256 n ∙ ap (λ (k : ℕ). k * 256) (octets_bits n) ∙ sym (pow-add 2 (8 * n) 8) ∙ ap (λ (k : ℕ). 2 ^ k) (sym more)

-- a number of at most 15 octets is below 2^120
pub room : (n i : ℕ) → n < 256 ^ i → i < 16 → n < 2 ^ 120
room n i l m =
    let some : 2 ^ (8 * i) ≤ 2 ^ 120 = pow_mono {i = 8 * i} {j = 120} (omega arith) in
    omega (arith, octets_bits i)

-- octets moved to the upper end of an address fit in it
pub shift_fits : (n len : ℕ) → n < 256 ^ len → len ≤ 16 → n * 2 ^ (128 - 8 * len) < 2 ^ 128
shift_fits n len l m =
    let split : 8 * len + (128 - 8 * len) ≡ 128 = omega arith in
    let power : 2 ^ (8 * len) * 2 ^ (128 - 8 * len) ≡ 2 ^ 128 = sym (pow-add 2 (8 * len) (128 - 8 * len)) ∙ ap (λ (k : ℕ). 2 ^ k) split in
    subst (λ (v : ℕ). n * 2 ^ (128 - 8 * len) < v) power
    (mul-lt-mul_of_pos_right (subst (λ (v : ℕ). n < v) (octets_bits len) l) (pow_pos (128 - 8 * len)))

-- what the first octets make, after one octet more
pub one_octet : (n d i : ℕ) → n < 256 ^ i → d < 256 → n * 256 + d < 256 ^ (i + 1)
one_octet n d i l m =
    let more : 256 ^ (i + 1) ≡ 256 ^ i * 256 = ap (λ (k : ℕ). 256 ^ k) (let e : i + 1 ≡ suc i = omega arith in e) ∙ pow-suc 256 i in
    omega arith

div-mul_exact : (n m : ℕ) → n % m ≡ 0 → n ≡ n / m * m
div-mul_exact n m e = omega (arith, div-add-mod n m, e, mul_comm m (n / m))

module _ (unused : ℕ) (octets : List ℕ) (few : unused < 8) (none : octets ≡ [] → unused ≡ 0)
    (zero_bits : number_from_digits 256 octets % 2 ^ unused ≡ 0) (fits : length octets ≤ 16) where
  unused_fits : (os : List ℕ) → os ≡ octets → unused ≤ 8 * length os
  unused_fits [] e = omega (arith, none (sym e))
  unused_fits (o ∷ os) e = omega arith

  -- the unused bits are no more than the octets have
  pub bits_used : unused ≤ 8 * length octets
  bits_used = unused_fits octets refl

  -- the addresses that begin so are as many
  abbrev count : ℕ
  count = 2 ^ (128 - (8 * length octets - unused))

  counted : 2 ^ (128 - 8 * length octets + unused) ≡ count
  counted =
      let used : unused ≤ 8 * length octets = bits_used in
      let same : 128 - 8 * length octets + unused ≡ 128 - (8 * length octets - unused) = omega arith in
      ap (λ (j : ℕ). 2 ^ j) same

  -- the least of them is a multiple of their count
  multiple : lower octets / count * count ≡ lower octets
  multiple =
      let n = number_from_digits 256 octets in
      let k = 128 - 8 * length octets in
      let u = 2 ^ unused in
      let q = n / u in
      let size : count ≡ u * 2 ^ k = sym counted ∙ pow-add 2 k unused ∙ mul_comm (2 ^ k) u in
      let low : lower octets ≡ q * (u * 2 ^ k) = ap (λ (j : ℕ). j * 2 ^ k) (div-mul_exact n u zero_bits) ∙ mul_assoc q u (2 ^ k) in
      let product_is : lower octets ≡ q * count = low ∙ ap (λ (j : ℕ). q * j) (sym size) in
      ap (λ (j : ℕ). j / count * count) product_is ∙
      ap (λ (j : ℕ). j * count) (mul-div_cancel q (pow_pos (128 - (8 * length octets - unused)))) ∙
      sym product_is

  -- a prefix whose other bits are zero is from the lower to the upper address
  pub prefix_is : (b : Block) → IsPrefixBlock (lower octets) (8 * length octets - unused) b →
      b ≡ record { min = lower octets; max = upper unused octets }
  prefix_is b p =
      let min : b.min ≡ lower octets = p.lower ∙ multiple in
      let max : b.max ≡ upper unused octets = omega (arith, p.upper, min, counted) in
      λ i. record { min = min i; max = max i }

  -- the greatest of them is an address
  upper_fits : lower octets < 2 ^ 128 → lower octets + (2 ^ (128 - 8 * length octets + unused) - 1) < 2 ^ 128
  upper_fits l =
      let top : lower octets / count * count + (count - 1) < 2 ^ 128 =
      prefix_fits (lower octets) (8 * length octets - unused) (omega arith) l in
      omega (arith, top, multiple, counted)

  -- of IPv4 the ends are numbers of 32 bits, before 96 zero bits and 96 one bits
  pub v4_ends : (first low high : ℕ) → first < 2 ^ 32 → first * 2 ^ 96 ≡ lower octets → length octets ≤ 4 → low ≡ first * 2 ^ 96 % 2 ^ 128 →
      high ≡ (first + (1 * 2 ^ (32 - 8 * length octets + unused) % 2 ^ 64 - 1)) * 2 ^ 96 % 2 ^ 128 + (2 ^ 96 - 1) →
      (low ≡ lower octets) × (high ≡ upper unused octets) × (low ≤ high)
  v4_ends first low high l is short low_is high_is =
      let bits = 32 - 8 * length octets + unused in
      let split : 2 ^ (128 - 8 * length octets + unused) ≡ 2 ^ bits * 2 ^ 96 =
      ap (λ (j : ℕ). 2 ^ j) (let e : 128 - 8 * length octets + unused ≡ bits + 96 = omega arith in e) ∙
      pow-add 2 bits 96 in
      let some : 0 < 2 ^ bits = pow_pos bits in
      let size : 1 * 2 ^ bits % 2 ^ 64 ≡ 2 ^ bits = one_shl bits 64 (omega arith) in
      let lower_is : low ≡ lower octets = omega (arith, low_is, is) in
      let upper_is : high ≡ upper unused octets = omega (arith, high_is, size, split, some, is, upper_fits (omega (arith, is))) in
      (lower_is, upper_is, omega (arith, lower_is, upper_is, split, some))
