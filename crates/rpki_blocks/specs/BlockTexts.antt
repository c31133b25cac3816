-- What is printed of addresses, of blocks and of sets of them.
use Rattle.std.specs.Int.{w32, w128, to_be_bytes}
use Rattle.std.specs.List.{flat_map}
use Rattle.std.specs.Net.Addr.{segments_of}
use Rattle.std.specs.Net.Text.{ipv4_text, ipv6_text}
use Rattle.std.specs.Prelude.{ℕ, ◌-◌, ◌/◌, ◌^◌, ◌==◌, if◌then◌else◌, List, [], ◌∷◌, ◌++◌, codes, decimal}
use Rattle.rpki_blocks.specs.AddressBits.{is_prefix, prefix_bits}
use Rattle.rpki_blocks.specs.ResourceTexts.{as_text}
use Rattle.rpki_blocks.specs.Sets.{Block}
pub mod Families

-- ---- addresses

-- an IPv4 address, which stands in the upper 32 bits: its octets in decimal digits, with dots
-- between them (RFC 3986 3.2.2: IPv4address)
abbrev pub v4_text : ℕ → List ℕ
v4_text n = ipv4_text (to_be_bytes w32 (n / 2 ^ 96))

-- an IPv6 address: its eight fields of 16 bits in lower-case hexadecimal digits without leading
-- zeros, with colons between them; `::` in place of the longest run of two zero fields or more, the
-- first of the longest ones; the last 32 bits of a mapped IPv4 address as one (RFC 5952 4, 5)
abbrev pub v6_text : ℕ → List ℕ
v6_text n = ipv6_text (segments_of (to_be_bytes w128 n))

-- ---- blocks

-- two ends, with a hyphen between them (own)
abbrev pub range_text : (ℕ → List ℕ) → Block → List ℕ
range_text text b = text b.min ++ codes "-" ++ text b.max

-- a prefix: its first address, a slash, and how many bits it has (RFC 4632 3.1, RFC 4291 2.3)
abbrev pub prefix_text : (ℕ → List ℕ) → Block → List ℕ
prefix_text text b = text b.min ++ codes "/" ++ decimal (128 - prefix_bits b)

-- addresses: a prefix where one covers the block exactly, which of one address has all its bits
-- (own), else the two ends
abbrev pub ip_block_text : (ℕ → List ℕ) → Block → List ℕ
ip_block_text text b = if is_prefix b (prefix_bits b) then prefix_text text b else range_text text b

-- a block of IPv4 addresses, whose prefixes have at most 32 bits
abbrev pub v4_block_text : Block → List ℕ
v4_block_text b = ip_block_text v4_text b

-- a block of IPv6 addresses
abbrev pub v6_block_text : Block → List ℕ
v6_block_text b = ip_block_text v6_text b

-- AS numbers: the number, or the two ends of several
abbrev pub as_block_text : Block → List ℕ
as_block_text b = if b.min == b.max then as_text b.min else range_text as_text b

-- ---- sets

-- the blocks of a set, with a comma and a space between them (own); nothing of the empty set
abbrev pub blocks_text : (Block → List ℕ) → List Block → List ℕ
blocks_text text [] = []
blocks_text text (b ∷ bs) = text b ++ flat_map (λ more. codes ", " ++ text more) bs
