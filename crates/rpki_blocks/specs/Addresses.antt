-- IP address resources of a certificate (RFC 3779 2.2.3, RFC 6487 4.8.10).
use Rattle.std.specs.Prelude.{ℕ, ◌+◌, ◌-◌, ◌*◌, ◌^◌, not, nat_lt, bytes_eq, cond, List, [], ◌∷◌, ◌++◌, length, Option, Some, None}
use Rattle.std.specs.Int.Digits.{number_from_digits}
use Rattle.std.specs.Option.{option_map}
use Rattle.rpki_der.specs.BasicFormats.{bit_string, octet_string}
use Rattle.rpki_der.specs.FormatChoices.{CHOICE, defined_by, image}
use Rattle.rpki_der.specs.Formats.{Format, OPTIONAL, tagged, then}
use Rattle.rpki_der.specs.Tags.{OCTET_STRING, SEQUENCE}
use Rattle.rpki_der.specs.Values.{enc, sequence_of_some}
use Rattle.rpki_blocks.specs.AddressBits.{around, front, ip_block, is_prefix, one_bits, prefix_bits, zero_bits}
use Rattle.rpki_blocks.specs.Sets.{Block}
use Rattle.rpki_blocks.specs.Resources.{Resources, missing}
use Rattle.rpki_blocks.specs.Unions.{resource_choice, written_choice}
use Rattle.rpki_blocks.specs.declared.ip_resources.Family.{Family}
use Rattle.rpki_blocks.specs.declared.ip_resources.Family.TheVariants.{V4, V6}
pub mod Views

-- the least address that begins with some bits: filled with zeros to 128 bits. IPv4 stands in the
-- upper 32 bits (own)
abbrev pub lower : List ℕ → ℕ
lower octets = number_from_digits 256 octets * 2 ^ (128 - 8 * length octets)

-- the greatest: filled with ones
abbrev pub upper : ℕ → List ℕ → ℕ
upper unused octets = lower octets + 2 ^ (128 - 8 * length octets + unused) - 1

-- how many bits an address of the family has
abbrev pub family_bits : Family → ℕ
family_bits V4 = 32
family_bits V6 = 128

-- the addresses that begin with the bits, where these are not too many
abbrev pub prefix_of : ℕ → ℕ × List ℕ → Option Block
prefix_of bits x = cond (nat_lt bits (8 * length x.1)) None (Some (record { min = lower x.1; max = upper x.0 x.1 }))

-- IPAddress ::= BIT STRING   (RFC 3779 2.2.3.8)
-- with at most as many bits as an address of the family has, as the addresses that begin with them
unfoldable pub ip_address_format : Family → Format Block
ip_address_format family = image (prefix_of (family_bits family)) (λ r. front (prefix_bits r) r.min) bit_string

-- the block between two ends in order
abbrev pub ordered : ℕ → ℕ → Option Block
ordered low high = cond (nat_lt high low) None (Some (record { min = low; max = high }))

-- min IPAddress, max IPAddress: the first address of one prefix, and the last of another
abbrev pub ip_address_ends_format : Family → Format Block
ip_address_ends_format family =
    image (λ x. ordered x.0.min x.1.max) (λ r. (around (zero_bits r.min) r.min, around (one_bits r.max) r.max))
    (then (ip_address_format family) (ip_address_format family))

-- IPAddressRange ::= SEQUENCE { min IPAddress, max IPAddress }   (RFC 3779 2.2.3.9)
-- the least address, without zeros at its end, and the greatest, without ones. A range that is a
-- prefix is read too, and so are ends with such bits (own)
unfoldable pub ip_address_range_format : Family → Format Block
ip_address_range_format family = tagged SEQUENCE (ip_address_ends_format family)

-- IPAddressOrRange ::= CHOICE {
--   addressPrefix IPAddress, addressRange IPAddressRange }   (RFC 3779 2.2.3.7)
-- a block that is a prefix is written as one
unfoldable pub ip_address_or_range_format : Family → Format Block
ip_address_or_range_format family = CHOICE SEQUENCE (λ r. not (is_prefix r (prefix_bits r)))
    (ip_address_range_format family) (ip_address_format family)

-- the address family identifier
abbrev pub afi : Family → List ℕ
afi V4 = 0 ∷ 1 ∷ []
afi V6 = 0 ∷ 2 ∷ []

-- the family with this address family identifier
abbrev pub family_of : List ℕ → Option Family
family_of id = cond (bytes_eq id (afi V4)) (Some V4) (cond (bytes_eq id (afi V6)) (Some V6) None)

-- IPAddressFamily ::= SEQUENCE {   (RFC 3779 2.2.3.2)
--   addressFamily OCTET STRING (SIZE (2..3)), ipAddressChoice IPAddressChoice }
-- restricted to the AFI of IPv4 or IPv6 in two octets, without SAFI
unfoldable pub ip_address_family_format : Format (Family × Resources)
ip_address_family_format = tagged SEQUENCE (defined_by (image family_of afi octet_string) (λ x. x.0) []
    (λ family. image (λ r. Some (family, r)) (λ x. x.1) (resource_choice (ip_address_or_range_format family))))

-- the families that stand in an extension, each as it stands
pub record Families : Type 0 where
  pub v4 : Option Resources
  pub v6 : Option Resources

-- the resources, or `missing` where there are none
abbrev pub or_missing : Option Resources → Resources
or_missing None = missing
or_missing (Some r) = r

-- the families of an extension, by the first and the second, if there is one; two differ
abbrev pub with_second : Family × Resources → Option (Family × Resources) → Option Families
with_second (V4, r) None = Some (record { v4 = Some r; v6 = None })
with_second (V6, r) None = Some (record { v4 = None; v6 = Some r })
with_second (V4, r) (Some (V6, s)) = Some (record { v4 = Some r; v6 = Some s })
with_second (V6, r) (Some (V4, s)) = Some (record { v4 = Some s; v6 = Some r })
with_second (V4, r) (Some (V4, s)) = None
with_second (V6, r) (Some (V6, s)) = None

-- the first and the second, IPv4 before IPv6
abbrev pub in_order : Option Resources → Option Resources → (Family × Resources) × Option (Family × Resources)
in_order (Some r) o = ((V4, r), option_map (λ s. (V6, s)) o)
in_order None o = ((V6, or_missing o), None)

-- IPAddrBlocks ::= SEQUENCE OF IPAddressFamily   (RFC 3779 2.2.3.1)
-- restricted to IPv4 and IPv6, each at most once and at least one of them, in either order
unfoldable pub ip_addr_blocks_format : Format Families
ip_addr_blocks_format = image (λ x. with_second x.0 x.1) (λ f. in_order f.v4 f.v6) (tagged SEQUENCE
    (then ip_address_family_format (OPTIONAL SEQUENCE ip_address_family_format)))

-- they are encoded so
abbrev pub IsIPAddrBlocks : Families → List ℕ → Type 0
IsIPAddrBlocks = ip_addr_blocks_format.encodes

-- a certificate's addresses: a family that isn't there is missing
pub record Ip : Type 0 where
  pub v4 : Resources
  pub v6 : Resources

-- the addresses that the families of an extension give, if there is one
abbrev pub addresses : Option Families → Ip
addresses None = record { v4 = missing; v6 = missing }
addresses (Some f) = record { v4 = or_missing f.v4; v6 = or_missing f.v6 }

-- ---- what is written

-- the IPAddressFamily of this AFI with an encoded choice; none without a choice
abbrev pub family_pieces : ℕ → Option (List ℕ) → List (List ℕ)
family_pieces number None = []
family_pieces number (Some c) = enc SEQUENCE ((OCTET_STRING ∷ 2 ∷ 0 ∷ number ∷ []) ++ c) ∷ []

-- the IPAddressFamily of this AFI that is written of resources; none of what is missing
abbrev pub family : ℕ → Resources → List (List ℕ)
family number r = family_pieces number (written_choice ip_block r)

-- IPAddrBlocks of what a certificate has of IPv4 and of IPv6
abbrev pub ip_addr_blocks : Resources → Resources → Option (List ℕ)
ip_addr_blocks v4 v6 = sequence_of_some (family 1 v4 ++ family 2 v6)

-- the IPAddrBlocks that is written of a certificate's addresses; none where both are missing
abbrev pub ip : Ip → Option (List ℕ)
ip i = ip_addr_blocks i.v4 i.v6
