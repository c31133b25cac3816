-- What is written of a block of addresses encodes it.
use Rattle.std.specs.Int.Digits.{number_from_digits}
use Rattle.std.specs.Prelude.{◌==◌}
use Rattle.std.proofs.Common.{◌≡◌, ℕ, true, sym, refl, subst, inl, inr, ◌≤◌, arith, ◌∙◌, ◌-◌, ◌/◌, ◌%◌, [], ◌∷◌, ◌++◌}
use Rattle.std.proofs.Common.{append_assoc, length, take, ◌+◌, ◌*◌, ◌^◌, ap, ◌<◌, List, Some}
use Rattle.std.proofs.lemmas.Bool.{cases_lt, eqb-true, eq-eqb, and_parts, le-ltb, not-false}
use Rattle.std.proofs.lemmas.Nat.{pow-add, shl-shr}
use Rattle.std.proofs.Math.Nat.{mul-mod_left, mul_assoc, mul_comm, mod-add-div, mul-le-mul_left, mod-lt}
use Rattle.std.proofs.Math.Seq.{take-append-add}
use Rattle.std.proofs.Math.Pow.{pow_pos, pow-lt}
use Rattle.rpki_der.specs.BasicFormats.{bit_string}
use Rattle.rpki_der.specs.Primitives.{IsBits}
use Rattle.rpki_der.specs.Tags.{BIT_STRING, SEQUENCE}
use Rattle.rpki_der.specs.Values.{enc}
use Rattle.rpki_der.proofs.Octets.{some}
use Rattle.rpki_der.proofs.ValueWritten.{bool_cases}
use Rattle.rpki_blocks.specs.AddressBits.{around, front, octets_of, without, zero_bits, is_prefix, prefix_bits}
use Rattle.rpki_blocks.specs.AddressBits.{one_bits, ip_block, ip_range}
use Rattle.rpki_blocks.specs.Addresses.{lower, upper, family_bits, prefix_of, ip_address_format}
use Rattle.rpki_blocks.specs.Addresses.{ip_address_range_format, ip_address_or_range_format}
use Rattle.rpki_blocks.specs.Prefixes.{is_v4_block}
use Rattle.rpki_blocks.specs.Sets.{Block, between}
use Rattle.rpki_blocks.specs.declared.ip_resources.Family.{Family}
use Rattle.rpki_blocks.specs.declared.ip_resources.Family.TheVariants.{V4, V6}
use Rattle.rpki_blocks.proofs.AddressBits.{greatest_le, greatest_above, one_prefix, ones_divide, prefix_parts, zeros_divide}
use Rattle.rpki_blocks.proofs.AddressOctets.{length_octets_of, number_octets_of, octets_of_are, cut_small}
use Rattle.rpki_blocks.proofs.Lengths.{short_value}

abbrev count_of : ℕ → ℕ
count_of last = (128 - last + 7) / 8

abbrev unused_of : ℕ → ℕ
unused_of last = 8 * count_of last - (128 - last)

same_block : (r s : Block) → r.min ≡ s.min → r.max ≡ s.max → r ≡ s
same_block r s a b = λ i. record { min = a i; max = b i }

-- the bits that are written of such a block are those of the address
bits_around : (last address : ℕ) → last ≤ 128 → front (prefix_bits (around last address)) (around last address).min ≡ front last address
bits_around last address l =
    let some = pow_pos last in
    let bits : prefix_bits (around last address) ≡ last = one_prefix (around last address) last l
    (record { zeros = mul-mod_left (address / 2 ^ last) (2 ^ last); size = omega (arith, some) }) in
    let same : address / 2 ^ last * 2 ^ last / 2 ^ last ≡ address / 2 ^ last = shl-shr (address / 2 ^ last) last in
    ap (λ (k : ℕ). front k (address / 2 ^ last * 2 ^ last)) bits ∙
    ap (λ (n : ℕ). (unused_of last, octets_of (count_of last) (n * 2 ^ unused_of last))) same

module _ (last address : ℕ) (l : last ≤ 128) (h : address < 2 ^ 128) where
  octets_is : number_from_digits 256 (octets_of (count_of last) (address / 2 ^ last * 2 ^ unused_of last)) ≡
      address / 2 ^ last * 2 ^ unused_of last
  octets_is = number_octets_of (count_of last) _ (cut_small last address l h)

  no_octets : octets_of (count_of last) (address / 2 ^ last * 2 ^ unused_of last) ≡ [] → unused_of last ≡ 0
  no_octets e = omega (arith, ap length e, length_octets_of (count_of last) (address / 2 ^ last * 2 ^ unused_of last))

  lower_is : lower (octets_of (count_of last) (address / 2 ^ last * 2 ^ unused_of last)) ≡ address / 2 ^ last * 2 ^ last
  lower_is =
      let long = length_octets_of (count_of last) (address / 2 ^ last * 2 ^ unused_of last) in
      let rest : unused_of last + (128 - 8 * count_of last) ≡ last = omega arith in
      let a : lower (octets_of (count_of last) (address / 2 ^ last * 2 ^ unused_of last)) ≡
      (address / 2 ^ last * 2 ^ unused_of last) * 2 ^ (128 - 8 * count_of last) =
      ap (λ (k : ℕ).
      k * 2 ^ (128 - 8 * length (octets_of (count_of last) (address / 2 ^ last * 2 ^ unused_of last))))
      octets_is ∙ ap (λ (k : ℕ). address / 2 ^ last * 2 ^ unused_of last * 2 ^ (128 - 8 * k)) long in
      let b : (address / 2 ^ last * 2 ^ unused_of last) * 2 ^ (128 - 8 * count_of last) ≡
      address / 2 ^ last * (2 ^ unused_of last * 2 ^ (128 - 8 * count_of last)) =
      mul_assoc (address / 2 ^ last) (2 ^ unused_of last) (2 ^ (128 - 8 * count_of last)) in
      let d : 2 ^ unused_of last * 2 ^ (128 - 8 * count_of last) ≡ 2 ^ last =
      sym (pow-add 2 (unused_of last) (128 - 8 * count_of last)) ∙ ap (λ (k : ℕ). 2 ^ k) rest in
      a ∙ b ∙ ap (λ (k : ℕ). address / 2 ^ last * k) d

  upper_is : upper (unused_of last) (octets_of (count_of last) (address / 2 ^ last * 2 ^ unused_of last)) ≡
      address / 2 ^ last * 2 ^ last + 2 ^ last - 1
  upper_is =
      let long = length_octets_of (count_of last) (address / 2 ^ last * 2 ^ unused_of last) in
      let rest : 128 - 8 * length (octets_of (count_of last) (address / 2 ^ last * 2 ^ unused_of last)) +
      unused_of last ≡ last = omega (arith, long) in
      ap (λ (k : ℕ). k + 2 ^ (128 - 8 * length (octets_of (count_of last) (address / 2 ^ last * 2 ^ unused_of last)) +
      unused_of last) - 1) lower_is ∙ ap (λ (k : ℕ). address / 2 ^ last * 2 ^ last + 2 ^ k - 1) rest

  -- an address without its last bits is a BIT STRING
  pub front_is : IsBits (front last address) (bit_string.written (front last address))
  front_is = record {
    enc = record {
      octet = omega arith;
      low_tag = omega arith;
      octets =
          (omega arith, octets_of_are (count_of last) (address / 2 ^ last * 2 ^ unused_of last));
      short =
          omega (arith, length_octets_of (count_of last) (address / 2 ^ last * 2 ^ unused_of last));
      is = refl;
    };
    few = omega arith;
    none = no_octets;
    zero_bits = ap (λ (k : ℕ). k % 2 ^ unused_of last) octets_is ∙ mul-mod_left (address / 2 ^ last) (2 ^ unused_of last);
  }

  few_octets : (family : Family) → 128 ≤ family_bits family + last → 8 * length (front last address).1 ≤ family_bits family
  few_octets V4 wide = omega (arith, length_octets_of (count_of last) (address / 2 ^ last * 2 ^ unused_of last))
  few_octets V6 wide = omega (arith, length_octets_of (count_of last) (address / 2 ^ last * 2 ^ unused_of last))

  -- the addresses that differ in the last bits alone are a block that can be written
  address_fits : (family : Family) → 128 ≤ family_bits family + last → (ip_address_format family).fits (around last address)
  unfolding ip_address_format
  address_fits family wide =
      subst (λ (x : ℕ × List ℕ). (prefix_of (family_bits family) x ≡ Some (around last address)) ×
      IsBits x (bit_string.written x)) (sym (bits_around last address l)) (
        rw (le-ltb (family_bits family) (8 * length (front last address).1) (few_octets family wide))
            (ap some (same_block _ _ lower_is upper_is)),
        front_is,
      )

-- ---- the octets that are put

-- the octets of the bits that stay, cut off behind the head, are the BIT STRING of an address
pub put_cut : (last address : ℕ) (old one two octets : List ℕ) (start count : ℕ) → last ≤ 128 → start ≡ length one →
    count ≡ count_of last → one ≡ old ++ BIT_STRING ∷ (count + 1) ∷ (last % 8) ∷ [] → two ≡ one ++ octets →
    take count octets ≡ (front last address).1 → take (start + count) two ≡ old ++ without last address
unfolding without
put_cut last address old one two octets start count most here is first second cut =
    let kept : List ℕ = (front last address).1 in
    let long : length kept ≡ count_of last = length_octets_of (count_of last) (address / 2 ^ last * 2 ^ unused_of last) in
    let head : length (unused_of last ∷ kept) ≡ count + 1 = omega (arith, long) in
    let unused : unused_of last ≡ last % 8 = omega arith in
    let whole : enc BIT_STRING (unused_of last ∷ kept) ≡ BIT_STRING ∷ (count + 1) ∷ (last % 8) ∷ kept =
    short_value BIT_STRING (unused_of last ∷ kept) (omega (arith, long)) ∙
    ap (λ (k : ℕ). BIT_STRING ∷ k ∷ unused_of last ∷ kept) head ∙
    ap (λ (k : ℕ). BIT_STRING ∷ (count + 1) ∷ k ∷ kept) unused in
    let together : (old ++ BIT_STRING ∷ (count + 1) ∷ (last % 8) ∷ []) ++ kept ≡ old ++ BIT_STRING ∷ (count + 1) ∷
    (last % 8) ∷ kept = append_assoc old _ kept in
    ap (λ (k : ℕ). take (k + count) two) here ∙ ap (take (length one + count)) second ∙
    take-append-add one octets count ∙ ap (λ (b : List ℕ). one ++ b) cut ∙ ap (λ (b : List ℕ). b ++ kept)
    first ∙ together ∙ ap (λ (b : List ℕ). old ++ b) (sym whole)

-- a number with so many zero bits, or one below one with so many
zeros_are : (n last : ℕ) → n % 2 ^ last ≡ 0 → n / 2 ^ last * 2 ^ last ≡ n
zeros_are n last h = omega (arith, mod-add-div n (2 ^ last), mul_comm (2 ^ last) (n / 2 ^ last), h)

-- by p, not 0
ones_by : (n p a b r : ℕ) → r < p → r + p * a ≡ n → p * b ≡ n + 1 → a * p + p - 1 ≡ n
ones_by n p a b r small first second =
    elim (cases_lt a b) [
      | inl lt ↦ elim (cases_lt (a + 1) b) [
        | inl more ↦
            let step : p * (a + 2) ≤ p * b = mul-le-mul_left p (omega arith) in
            absurd (omega (arith, step))
        | inr le ↦ let same : b ≡ a + 1 = omega arith in let second' : p * (a + 1) ≡ n + 1 = rw same at second in
            omega (arith, second', mul_comm a p)
      ]
      | inr le ↦ let step : p * b ≤ p * a = mul-le-mul_left p le in absurd (omega (arith, step))
    ]

ones_are : (n last : ℕ) → (n + 1) % 2 ^ last ≡ 0 → n / 2 ^ last * 2 ^ last + 2 ^ last - 1 ≡ n
ones_are n last h = ones_by n (2 ^ last) (n / 2 ^ last) ((n + 1) / 2 ^ last) (n % 2 ^ last) (mod-lt n (pow_pos last))
    (mod-add-div n (2 ^ last)) (omega (arith, mod-add-div (n + 1) (2 ^ last), h))

-- what is written of a block
pub block_text : (family : Family) (b : Block) → (ip_address_or_range_format family).written b ≡ ip_block b
unfolding ip_address_or_range_format ip_address_range_format ip_address_format without
block_text family b =
    let ends : enc SEQUENCE
    (bit_string.written
    (front (prefix_bits (around (zero_bits b.min) b.min)) (around (zero_bits b.min) b.min).min) ++
    bit_string.written
    (front (prefix_bits (around (one_bits b.max) b.max)) (around (one_bits b.max) b.max).min)) ≡
    ip_range b.min b.max =
    λ i. enc SEQUENCE (bit_string.written (bits_around (zero_bits b.min) b.min (greatest_le _ 128) i) ++
    bit_string.written (bits_around (one_bits b.max) b.max (greatest_le _ 128) i)) in
    elim (bool_cases (is_prefix b (prefix_bits b))) [ inl t ↦ rw t refl | inr f ↦ rw f ends ]

-- a block of addresses of the family can be written
pub block_fits : (family : Family) (b : Block) → 128 ≤ family_bits family + zero_bits b.min →
    128 ≤ family_bits family + one_bits b.max →
    (is_prefix b (prefix_bits b) ≡ true → 128 ≤ family_bits family + prefix_bits b) → b.min ≤ b.max →
    b.max < 2 ^ 128 → (ip_address_or_range_format family).fits b
unfolding ip_address_or_range_format ip_address_range_format
block_fits family b zeros ones bits order small =
    let low_is = zeros_are b.min (zero_bits b.min) (zeros_divide b.min) in
    let high_is = ones_are b.max (one_bits b.max) (ones_divide b.max) in (
      λ range. (
        rw (le-ltb (around (one_bits b.max) b.max).max (around (zero_bits b.min) b.min).min
            (omega (arith, low_is, high_is)))
            (ap some (same_block (between (around (zero_bits b.min) b.min).min (around (one_bits b.max) b.max).max)
            b low_is high_is)),
        (
          address_fits (zero_bits b.min) b.min (greatest_le _ 128) (omega arith) family zeros,
          address_fits (one_bits b.max) b.max (greatest_le _ 128) small family ones,
        ),
      ),
      λ other.
          let t = not-false (is_prefix b (prefix_bits b)) other in
          let p = prefix_parts b (prefix_bits b) t in
          let same : around (prefix_bits b) b.min ≡ b = same_block _ _ (zeros_are b.min (prefix_bits b) p.zeros)
          (omega (arith, zeros_are b.min (prefix_bits b) p.zeros, p.size)) in
          subst (ip_address_format family).fits same
          (address_fits (prefix_bits b) b.min (greatest_le (is_prefix b) 128) (omega arith) family (bits t)),
    )

-- any block of IPv6 addresses
pub v6_fits : (b : Block) → b.min ≤ b.max → b.max ≤ 2 ^ 128 - 1 → (ip_address_or_range_format V6).fits b
v6_fits b order small = block_fits V6 b (omega arith) (omega arith) (λ t. omega arith) order (omega (arith, small))

-- the block is one of whole IPv4 addresses
record IsV4Block (b : Block) : Type 0 where
  zeros : b.min % 2 ^ 96 ≡ 0
  ones : (b.max + 1) % 2 ^ 96 ≡ 0

v4_parts : (b : Block) → is_v4_block b ≡ true → IsV4Block b
v4_parts b h =
    let r = and_parts _ _ h in
    let zeros : b.min % 2 ^ 96 ≡ 0 = eqb-true _ _ r.0 in
    let ones : b.max % 2 ^ 96 ≡ 2 ^ 96 - 1 = eqb-true _ _ r.1 in
    record { zeros = zeros; ones = omega arith }

v4_zeros : (n : ℕ) → n % 2 ^ 96 ≡ 0 → 96 ≤ zero_bits n
v4_zeros n h = greatest_above (λ last. n % 2 ^ last == 0) 128 96 (eq-eqb _ _ h) (omega arith)

v4_ones : (n : ℕ) → (n + 1) % 2 ^ 96 ≡ 0 → 96 ≤ one_bits n
v4_ones n h = greatest_above (λ last. (n + 1) % 2 ^ last == 0) 128 96 (eq-eqb _ _ h) (omega arith)

-- a power of two between two multiples of 2 ^ 96
v4_size : (m n k : ℕ) → m % 2 ^ 96 ≡ 0 → (n + 1) % 2 ^ 96 ≡ 0 → n + 1 ≡ m + 2 ^ k → 96 ≤ k
v4_size m n k zeros ones size =
    elim (cases_lt k 96) [
      | inl lt ↦
          let less : 2 ^ k < 2 ^ 96 = pow-lt lt in
          absurd (omega (arith, less, pow_pos k, zeros, ones, size))
      | inr le ↦ le
    ]

-- a block of IPv4 addresses can be written as one
pub v4_fits : (b : Block) → is_v4_block b ≡ true → b.min ≤ b.max → b.max < 2 ^ 128 → (ip_address_or_range_format V4).fits b
v4_fits b v4 order small =
    let p = v4_parts b v4 in
    block_fits V4 b (omega (arith, v4_zeros b.min p.zeros)) (omega (arith, v4_ones b.max p.ones))
    (λ t. omega (arith, v4_size b.min b.max (prefix_bits b) p.zeros p.ones (eqb-true _ _ (and_parts _ _ t).1)))
    order small
