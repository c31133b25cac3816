-- Blocks of addresses and of AS numbers as texts, and what is listed of a kind of numbers: as what
-- is shown of a certificate has them (own).
use Rattle.rpki_parts.specs.Uris.{slash}
use Rattle.std.specs.List.{AllZip, position}
use Rattle.std.specs.Net.Addr.{ipv4_bits, ipv6_bits}
use Rattle.std.specs.Net.Grammar.{IsIpv4Text, IsIpv6Text}
use Rattle.std.specs.Prelude.{◌≡◌, ◌≢◌, ◌⊎◌, ◌+◌, ◌*◌, ◌^◌, ◌<◌, ◌≤◌, ◌==◌, ℕ, List, [], ◌∷◌, take, drop, Some}
use Rattle.std.specs.Prelude.{None, codes}
use Rattle.std.specs.Str.Parse.{IsNumeral, digits_value}
use Rattle.std.specs.declared.net.ipv4_addr.Ipv4Addr.{Ipv4Addr}
use Rattle.std.specs.declared.net.ipv6_addr.Ipv6Addr.{Ipv6Addr}
use Rattle.rpki_blocks.specs.Prefixes.{IsPrefixBlock}
use Rattle.rpki_blocks.specs.Resources.{Resources, inherit}
use Rattle.rpki_blocks.specs.Sets.{Block}
use Rattle.rpki_blocks.specs.Unions.{IsUnion}
use Rattle.rpki_issuing.specs.declared.values.families.Family.{Family}
use Rattle.rpki_issuing.specs.declared.values.families.Family.TheVariants.{V4, V6}

-- ---- parts

-- `-`, between two ends
abbrev pub hyphen : ℕ
hyphen = 45

-- what stands before the first of this octet in the text, and what behind it
pub record IsParted (octet : ℕ) (text before behind : List ℕ) : Type 0 where
  pub place : ℕ
  pub place_is : position (λ other. other == octet) text ≡ Some place
  pub before_is : before ≡ take place text
  pub behind_is : behind ≡ drop (place + 1) text

-- it doesn't stand in the text
abbrev pub LacksOctet : ℕ → List ℕ → Type 0
LacksOctet octet text = position (λ other. other == octet) text ≡ None

-- a number below 2^32 in decimal digits
pub record IsNumberText (n : ℕ) (text : List ℕ) : Type 0 where
  pub digits : IsNumeral 10 text
  pub value : n ≡ digits_value 10 text
  pub small : n < 2 ^ 32

-- ---- AS numbers

-- the texts of the first and the last of some AS numbers
pub record IsAsRange (before behind : List ℕ) (b : Block) : Type 0 where
  pub min_is : IsNumberText b.min before
  pub max_is : IsNumberText b.max behind
  pub ordered : b.min ≤ b.max

-- with a hyphen between them
pub record IsAsRangeText (b : Block) (text : List ℕ) : Type 0 where
  pub before : List ℕ
  pub behind : List ℕ
  pub parted : IsParted hyphen text before behind
  pub range : IsAsRange before behind b

-- one AS number
pub record IsOneAsText (b : Block) (text : List ℕ) : Type 0 where
  pub unparted : LacksOctet hyphen text
  pub min_is : IsNumberText b.min text
  pub max_is : b.max ≡ b.min

-- one, or the first and the last of some
abbrev pub IsAsText : Block → List ℕ → Type 0
IsAsText b text = IsOneAsText b text ⊎ IsAsRangeText b text

-- ---- addresses

-- how many bits an address of the family has
abbrev pub address_bits : Family → ℕ
address_bits V4 = 32
address_bits V6 = 128

-- how many addresses of 128 bits begin with one of the family: an IPv4 address stands in the upper
-- 32 bits
abbrev pub size_of : Family → ℕ
size_of V4 = 2 ^ 96
size_of V6 = 1

-- the address, in one of its forms (RFC 3986 3.2.2, RFC 4291 2.2)
abbrev pub IsAddressText : Family → ℕ → List ℕ → Type 0
IsAddressText V4 n text = (a : Ipv4Addr) × IsIpv4Text text a × (n ≡ ipv4_bits a)
IsAddressText V6 n text = (a : Ipv6Addr) × IsIpv6Text text a × (n ≡ ipv6_bits a)

-- the texts of an address and of how many of its bits are the prefix; no bit is set behind these
-- (RFC 4632 3.1, RFC 4291 2.3)
pub record IsPrefix (family : Family) (before behind : List ℕ) (b : Block) : Type 0 where
  pub address : ℕ
  pub address_is : IsAddressText family address before
  pub count : ℕ
  pub count_is : IsNumberText count behind
  pub fits : count ≤ address_bits family
  pub block_is : IsPrefixBlock (address * size_of family) count b
  pub whole : b.min ≡ address * size_of family

-- with a slash between them
pub record IsPrefixText (family : Family) (b : Block) (text : List ℕ) : Type 0 where
  pub before : List ℕ
  pub behind : List ℕ
  pub parted : IsParted slash text before behind
  pub prefix : IsPrefix family before behind b

-- the texts of the first and the last of some addresses
pub record IsAddressRange (family : Family) (before behind : List ℕ) (b : Block) : Type 0 where
  pub first : ℕ
  pub first_is : IsAddressText family first before
  pub last : ℕ
  pub last_is : IsAddressText family last behind
  pub ordered : first ≤ last
  pub min_is : b.min ≡ first * size_of family
  pub max_is : b.max + 1 ≡ (last + 1) * size_of family

-- with a hyphen between them
pub record IsRangeText (family : Family) (b : Block) (text : List ℕ) : Type 0 where
  pub unprefixed : LacksOctet slash text
  pub before : List ℕ
  pub behind : List ℕ
  pub parted : IsParted hyphen text before behind
  pub range : IsAddressRange family before behind b

-- a prefix, or the first and the last of some
abbrev pub IsAddressesText : Family → Block → List ℕ → Type 0
IsAddressesText family b text = IsPrefixText family b text ⊎ IsRangeText family b text

-- ---- what is listed of a kind of numbers

-- that the issuer's are meant
abbrev pub inherit_texts : List (List ℕ)
inherit_texts = codes "inherit" ∷ []

-- The issuer's; or the numbers of the blocks that the texts are, in any order. Where there is no
-- text, none are listed.
abbrev pub AreListed : (Block → List ℕ → Type 0) → Resources → List (List ℕ) → Type 0
AreListed IsText r texts =
    ((texts ≡ inherit_texts) × (r ≡ inherit))
    ⊎ ((bs : List Block) × (texts ≢ inherit_texts) × AllZip IsText bs texts × IsUnion bs r)
