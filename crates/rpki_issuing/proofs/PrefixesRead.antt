-- A prefix by the texts of its address and of its count of bits, and a range by those of its ends.
use Rattle.std.proofs.Common.{◌≡◌, ℕ, ◌+◌, ◌-◌, ◌*◌, ◌/◌, ◌^◌, ◌≤◌, List, min, max, arith, sym, ap, ◌∙◌}
use Rattle.rpki_blocks.specs.Prefixes.{IsPrefixBlock}
use Rattle.rpki_blocks.specs.Sets.{Block, between}
use Rattle.rpki_issuing.specs.BlockTexts.{IsAddressText, IsNumberText, IsPrefix, IsAddressRange, address_bits, size_of}
use Rattle.rpki_issuing.specs.OnlyValues.{IsOnly}
use Rattle.rpki_issuing.specs.declared.values.families.Family.{Family}
use Rattle.rpki_issuing.specs.declared.values.families.Family.TheVariants.{V4, V6}

same_block : (x y : Block) → x.min ≡ y.min → x.max ≡ y.max → x ≡ y
same_block x y low high = ap (λ (n : ℕ). between n x.max) low ∙ ap (λ (n : ℕ). between y.min n) high

-- the texts, and what was read of them: nothing else can be
pub record AreRead (family : Family) (before behind : List ℕ) (address count : ℕ) : Type 0 where
  pub address_is : IsOnly (λ n. IsAddressText family n before) address
  pub count_is : IsOnly (λ n. IsNumberText n behind) count

-- the block from an address that has no bit set behind the count
pub only_prefix : (family : Family) (before behind : List ℕ) (address count first len : ℕ) (b : Block) →
    AreRead family before behind address count → count ≤ address_bits family → first ≡ address * size_of family →
    len ≡ count → IsPrefixBlock first len b → b.min ≡ first
    → IsOnly (IsPrefix family before behind) b
only_prefix family before behind address count first len b read fits first_is len_is block whole = (
  record {
    address = address;
    address_is = read.address_is.0;
    count = count;
    count_is = read.count_is.0;
    fits = fits;
    block_is = rw (first_is, len_is) at block;
    whole = whole ∙ first_is;
  },
  λ other is.
      let addresses : is.address ≡ address = read.address_is.1 is.address is.address_is in
      let counts : is.count ≡ count = read.count_is.1 is.count is.count_is in
      let low : other.min ≡ b.min = is.whole ∙ ap (λ (n : ℕ). n * size_of family) addresses ∙ sym first_is ∙
      sym whole in
      let wide : 2 ^ (128 - is.count) ≡ 2 ^ (128 - len) = ap (λ (n : ℕ). 2 ^ (128 - n)) (counts ∙ sym len_is) in
      same_block other b low (omega (arith, is.block_is.upper, block.upper)),
)

-- there is none from an address with such a bit
pub no_prefix : (family : Family) (before behind : List ℕ) (address count first len : ℕ) (b : Block) →
    AreRead family before behind address count → first ≡ address * size_of family → len ≡ count →
    IsPrefixBlock first len b → (b.min ≡ first → ⊥) → (other : Block) → IsPrefix family before behind other → ⊥
no_prefix family before behind address count first len b read first_is len_is block cut other is =
    let addresses : is.address ≡ address = read.address_is.1 is.address is.address_is in
    let counts : is.count ≡ count = read.count_is.1 is.count is.count_is in
    let low : is.address * size_of family ≡ first = ap (λ (n : ℕ). n * size_of family) addresses ∙ sym first_is in
    let lengths : is.count ≡ len = counts ∙ sym len_is in
    let lower : other.min ≡ first / 2 ^ (128 - len) * 2 ^ (128 - len) = rw (low, lengths) at is.block_is.lower in
    cut (block.lower ∙ sym lower ∙ is.whole ∙ low)

-- the first address of a family's isn't past the last
in_order : (family : Family) (first last low high : ℕ) → first ≤ last → low ≡ first * size_of family →
    high + 1 ≡ (last + 1) * size_of family → low ≤ high
in_order V4 first last low high le low_is high_is = omega arith
in_order V6 first last low high le low_is high_is = omega arith

-- the block between two ends
pub only_range : (family : Family) (before behind : List ℕ) (first last low high : ℕ) (b : Block) →
    IsOnly (λ n. IsAddressText family n before) first → IsOnly (λ n. IsAddressText family n behind) last →
    first ≤ last → low ≡ first * size_of family → high + 1 ≡ (last + 1) * size_of family
    → b.min ≡ min low high → b.max ≡ max low high → IsOnly (IsAddressRange family before behind) b
only_range family before behind first last low high b firsts lasts le low_is high_is min_is max_is =
    let ordered : low ≤ high = in_order family first last low high le low_is high_is in
    let lower : b.min ≡ low = omega arith in
    let upper : b.max ≡ high = omega arith in (
      record {
        first = first;
        first_is = firsts.0;
        last = last;
        last_is = lasts.0;
        ordered = le;
        min_is = lower ∙ low_is;
        max_is = ap (λ (n : ℕ). n + 1) upper ∙ high_is;
      },
      λ other is.
          let start : other.min ≡ b.min = is.min_is ∙ ap (λ (n : ℕ). n * size_of family)
          (firsts.1 is.first is.first_is) ∙ sym low_is ∙ sym lower in
          let end : other.max + 1 ≡ b.max + 1 = is.max_is ∙ ap (λ (n : ℕ). (n + 1) * size_of family)
          (lasts.1 is.last is.last_is) ∙ sym high_is ∙ ap (λ (n : ℕ). n + 1) (sym upper) in
          same_block other b start (omega (arith, end)),
    )
