-- How blocks of addresses are written: the bits that stand, and those that are left out (RFC 3779
-- 2.1.2, 2.2.3.8, 2.2.3.9).
use Rattle.std.specs.Prelude.{◌≡◌, ℕ, zero, suc, ◌+◌, ◌-◌, ◌*◌, ◌/◌, ◌%◌, ◌^◌, ◌==◌, ◌&&◌, Bool, true, false, cond}
use Rattle.std.specs.Prelude.{List, [], ◌∷◌, ◌++◌, Option, Some, None}
use Rattle.rpki_der.specs.BasicFormats.{bit_string}
use Rattle.rpki_der.specs.Tags.{SEQUENCE}
use Rattle.rpki_der.specs.Values.{enc}
use Rattle.rpki_blocks.specs.Sets.{Block}

-- the greatest number up to n that passes, 0 where none passes
unfoldable pub greatest : (ℕ → Bool) → ℕ → ℕ
greatest test zero = 0
greatest test (suc n) = cond (test (suc n)) (suc n) (greatest test n)

-- a number in this many octets
abbrev pub octets_of : ℕ → ℕ → List ℕ
octets_of zero n = []
octets_of (suc count) n = octets_of count (n / 256) ++ (n % 256) ∷ []

-- an address of 128 bits without its last bits: the count of unused bits, and octets
abbrev pub front : ℕ → ℕ → ℕ × List ℕ
front last address =
    let count : ℕ = (128 - last + 7) / 8 in
    let unused : ℕ = 8 * count - (128 - last) in
    (unused, octets_of count (address / 2 ^ last * 2 ^ unused))

-- the BIT STRING of it
unfoldable pub without : ℕ → ℕ → List ℕ
without last address = bit_string.written (front last address)

-- the block of the addresses that differ from this one in the last bits alone
abbrev pub around : ℕ → ℕ → Block
around last address = record { min = address / 2 ^ last * 2 ^ last; max = address / 2 ^ last * 2 ^ last + 2 ^ last - 1 }

-- whether the block is all addresses that differ in the last bits alone
abbrev pub is_prefix : Block → ℕ → Bool
is_prefix b last = (b.min % 2 ^ last == 0) && (b.max + 1 == b.min + 2 ^ last)

-- the greatest count of last bits for which the block is a prefix, 0 where there is none
abbrev pub prefix_bits : Block → ℕ
prefix_bits b = greatest (is_prefix b) 128

-- how many last bits are open, where the block is a prefix
abbrev pub IsPrefixAnswer : Block → Option ℕ → Type 0
IsPrefixAnswer b None = is_prefix b (prefix_bits b) ≡ false
IsPrefixAnswer b (Some last) = (is_prefix b (prefix_bits b) ≡ true) × (last ≡ prefix_bits b)

-- how many bits at the end of an address are 0
abbrev pub zero_bits : ℕ → ℕ
zero_bits n = greatest (λ last. n % 2 ^ last == 0) 128

-- how many bits at the end of an address are 1
abbrev pub one_bits : ℕ → ℕ
one_bits n = greatest (λ last. (n + 1) % 2 ^ last == 0) 128

-- IPAddressRange: the lower end without its trailing zero bits, the upper end without its trailing
-- one bits
abbrev pub ip_range : ℕ → ℕ → List ℕ
ip_range min max = enc SEQUENCE (without (zero_bits min) min ++ without (one_bits max) max)

-- IPAddressOrRange: a prefix where one covers the block exactly, else a range
abbrev pub ip_block : Block → List ℕ
ip_block b = cond (is_prefix b (prefix_bits b)) (without (prefix_bits b) b.min) (ip_range b.min b.max)
