-- The extensions of resources (RFC 3779 2, 3; RFC 8360 4.2): the identifier shows the mode, the
-- flag isn't tested (own).
use Rattle.std.specs.Prelude.{◌≡◌, ◌||◌, Bool, [], ◌∷◌, Some, ◌-◌, ◌^◌, true, false}
use Rattle.rpki_der.specs.Formats.{Format}
use Rattle.rpki_der.specs.Reading.{map_value}
use Rattle.rpki_der.specs.Tags.{SEQUENCE}
use Rattle.rpki_blocks.specs.Addresses.{Families, Ip, addresses, ip, ip_addr_blocks_format}
use Rattle.rpki_blocks.specs.declared.overclaim.Overclaim.{Overclaim}
use Rattle.rpki_blocks.specs.Overclaims.{ip_identifier, as_identifier}
use Rattle.rpki_blocks.specs.Resources.{IsResources, Resources, missing, inherit, blocks}
use Rattle.rpki_blocks.specs.Prefixes.{AreV4}
use Rattle.rpki_blocks.specs.Systems.{as_identifiers_format, written_as as written_numbers}
use Rattle.rpki_blocks.specs.Unions.{text_of}
use Rattle.rpki_ext.specs.Kinds.{ExtensionKind, untested}

-- whether there are resources
abbrev pub are_there : Resources → Bool
are_there missing = false
are_there inherit = true
are_there (blocks bs) = true

-- whether there are resources of either family
abbrev pub has_addresses : Ip → Bool
has_addresses i = are_there i.v4 || are_there i.v6

-- IPAddrBlocks, seen as a certificate's addresses
unfoldable pub addresses_format : Format Ip
addresses_format = record {
  encodes = λ i text. (f : Families) × ip_addr_blocks_format.encodes f text × (addresses (Some f) ≡ i);
  read = map_value (λ f. addresses (Some f)) ip_addr_blocks_format.read;
  fits = λ i. IsResources (2 ^ 128 - 1) i.v4 × AreV4 i.v4 × IsResources (2 ^ 128 - 1) i.v6 × (has_addresses i ≡ true);
  written = λ i. text_of (ip i);
  inside = λ i. text_of (ip i);
  heads = Some (SEQUENCE ∷ []);
  least = 1;
  shut = [];
}

-- ASIdentifiers
unfoldable pub numbers_format : Format Resources
numbers_format = record {
  encodes = as_identifiers_format.encodes;
  read = as_identifiers_format.read;
  fits = λ r. IsResources (2 ^ 32 - 1) r × (are_there r ≡ true);
  written = λ r. text_of (written_numbers r);
  inside = λ r. text_of (written_numbers r);
  heads = Some (SEQUENCE ∷ []);
  least = 1;
  shut = [];
}

-- id-pe-ipAddrBlocks, or id-pe-ipAddrBlocks-v2 where the mode is Trim; written as critical
abbrev pub ip_resources : Overclaim → ExtensionKind Ip
ip_resources mode = record { identifier = ip_identifier mode; flag = untested true; format = addresses_format }

-- id-pe-autonomousSysIds, or id-pe-autonomousSysIds-v2 where the mode is Trim; written as critical
abbrev pub as_resources : Overclaim → ExtensionKind Resources
as_resources mode = record { identifier = as_identifier mode; flag = untested true; format = numbers_format }
