-- The text of a name (RFC 4514 2). Its parts stand in the order of the encoding, where RFC 4514 2.1
-- begins with the last one, and with ", " between them (own).
use Rattle.std.specs.Prelude.{ℕ, Bool, true, false, ◌||◌, ◌&&◌, ◌==◌, nat_lt, not, ◌+◌, ◌-◌, ◌*◌, ◌%◌, ◌^◌}
use Rattle.std.specs.Prelude.{if◌then◌else◌, List, [], ◌∷◌, ◌++◌, map, Option, Some, None, codes, bytes_eq}
use Rattle.std.specs.Fmt.{decimal}
use Rattle.rpki_der.specs.Primitives.Reading.{oid_at}
use Rattle.rpki_der.specs.Reading.{content}
use Rattle.rpki_der.specs.Sequences.Reading.{sequence_of}
use Rattle.rpki_der.specs.Tags.{SEQUENCE, SET, PRINTABLE_STRING, UTF8_STRING}
use Rattle.rpki_der.specs.Texts.{hexadecimal}
use Rattle.rpki_der.specs.Values.Reading.{◌>>=◌, value_at}
use Rattle.rpki_parts.specs.Names.{common_name, serial_number}
pub mod Reading

-- ---- what a name has (RFC 5280 4.1.2.4)

-- AttributeTypeAndValue: the content of the type, and the octets of the value behind it
unfoldable pub attribute_value_at : List ℕ → Option ((List ℕ × List ℕ) × List ℕ)
attribute_value_at = content SEQUENCE oid_at

-- RelativeDistinguishedName: its attributes
unfoldable pub part_values_at : List ℕ → Option (List (List ℕ × List ℕ) × List ℕ)
part_values_at = content SET (sequence_of attribute_value_at)

-- RDNSequence: its parts
unfoldable pub name_values_at : List ℕ → Option (List (List (List ℕ × List ℕ)) × List ℕ)
name_values_at = content SEQUENCE (sequence_of part_values_at)

-- ---- strings (RFC 4514 2.4)

-- the octet of a character that is escaped wherever it stands: one of "+,;<>\
abbrev pub is_special : ℕ → Bool
is_special octet = (octet == 34) || (octet == 43) || (octet == 44) || (octet == 59) || (octet == 60) || (octet == 62) || (octet == 92)

-- a visible character of ASCII, or a space
abbrev pub is_visible : ℕ → Bool
is_visible octet = nat_lt 31 octet && nat_lt octet 127

-- an octet of a string: two digits behind a backslash where it is no visible character of ASCII
-- (own), else the character, behind a backslash where it is special or at an edge
abbrev pub octet_text : Bool → ℕ → List ℕ
octet_text is_at_edge octet =
    if not (is_visible octet) then 92 ∷ hexadecimal (octet ∷ [])
    else (if is_at_edge || is_special octet then 92 ∷ octet ∷ [] else octet ∷ [])

-- a space or # at the beginning, or a space at the end, where no octets are left behind it
abbrev pub is_at_edge : Bool → ℕ → List ℕ → Bool
is_at_edge is_first octet [] = (octet == 32) || (is_first && (octet == 35))
is_at_edge is_first octet (next ∷ octets) = is_first && ((octet == 32) || (octet == 35))

-- the octets of a string, from its first one on or from a later one on
abbrev pub octets_text : Bool → List ℕ → List ℕ
octets_text is_first [] = []
octets_text is_first (octet ∷ octets) = octet_text (is_at_edge is_first octet octets) octet ++ octets_text false octets

-- a string
abbrev pub string_text : List ℕ → List ℕ
string_text octets = octets_text true octets

-- ---- types (RFC 4512 1.4, X.690 8.19)

-- the number of a subidentifier, with the 7 bits of one octet more
abbrev pub with_octet : ℕ → ℕ → ℕ
with_octet number octet = number * 128 + octet % 128

-- what is read of a subidentifier after this octet: below 128 it is the last one of its own
abbrev pub number_after : ℕ → ℕ → ℕ
number_after number octet = if nat_lt octet 128 then 0 else with_octet number octet

-- the subidentifier that ends with this octet, if one does
abbrev pub ended_with : ℕ → ℕ → List ℕ
ended_with number octet = if nat_lt octet 128 then with_octet number octet ∷ [] else []

-- the subidentifiers, the first of which has this number so far
abbrev pub subidentifiers : ℕ → List ℕ → List ℕ
subidentifiers number [] = []
subidentifiers number (octet ∷ octets) = ended_with number octet ++ subidentifiers (number_after number octet) octets

-- whether each of them is below 2^64
abbrev pub are_small : ℕ → List ℕ → Bool
are_small number [] = true
are_small number (octet ∷ octets) = nat_lt number (2 ^ 57) && are_small (number_after number octet) octets

-- a subidentifier in decimal digits behind a dot; the first one is two numbers
abbrev pub number_text : Bool → ℕ → List ℕ
number_text false n = codes "." ++ decimal n
number_text true n =
    if nat_lt n 40 then codes "0." ++ decimal n
    else (if nat_lt n 80 then codes "1." ++ decimal (n - 40) else codes "2." ++ decimal (n - 80))

-- subidentifiers, from the first one on or from a further one on
abbrev pub numbers_text : Bool → List ℕ → List ℕ
numbers_text is_first [] = []
numbers_text is_first (n ∷ ns) = number_text is_first n ++ numbers_text false ns

-- numbers with a dot between each two
abbrev pub dotted_text : List ℕ → List ℕ
dotted_text id = numbers_text true (subidentifiers 0 id)

-- a type without a name: its numbers, or its octets where one is 2^64 or more (own)
abbrev pub type_text : List ℕ → List ℕ
type_text id = if are_small 0 id then dotted_text id else codes "oid:" ++ hexadecimal id

-- ---- attributes (RFC 4514 2.3, 2.4)

-- id-at-countryName: 2.5.4.6 (RFC 5280 A.1)
abbrev pub country_name : List ℕ
country_name = 0x55 ∷ 0x04 ∷ 0x06 ∷ []

-- id-at-organizationName: 2.5.4.10 (RFC 5280 A.1)
abbrev pub organization_name : List ℕ
organization_name = 0x55 ∷ 0x04 ∷ 0x0A ∷ []

-- id-at-organizationalUnitName: 2.5.4.11 (RFC 5280 A.1)
abbrev pub unit_name : List ℕ
unit_name = 0x55 ∷ 0x04 ∷ 0x0B ∷ []

-- the names of types that have one here (RFC 4514 3; of serialNumber RFC 4519 2.31)
abbrev pub short_name : List ℕ → Option (List ℕ)
short_name id =
    if bytes_eq id common_name then Some (codes "CN")
    else (if bytes_eq id serial_number then Some (codes "serialNumber")
    else (if bytes_eq id country_name then Some (codes "C")
    else (if bytes_eq id organization_name then Some (codes "O")
    else (if bytes_eq id unit_name then Some (codes "OU")
    else None))))

-- the content of a PrintableString or UTF8String
abbrev pub string_of : List ℕ → Option (List ℕ)
string_of [] = None
string_of (tag ∷ octets) =
    if (tag == PRINTABLE_STRING) || (tag == UTF8_STRING) then (value_at tag (tag ∷ octets) >>= λ v. Some v.0) else None

-- a value by its octets
abbrev pub octets_of_value : List ℕ → List ℕ
octets_of_value value = codes "#" ++ hexadecimal value

-- a string by its characters, and another value by its octets
abbrev pub value_text : List ℕ → Option (List ℕ) → List ℕ
value_text value (Some string) = string_text string
value_text value None = octets_of_value value

-- a type by its name before its value; another type by its numbers before the octets of its value
abbrev pub named_text : List ℕ × List ℕ → Option (List ℕ) → List ℕ
named_text a (Some name) = name ++ (codes "=" ++ value_text a.1 (string_of a.1))
named_text a None = type_text a.0 ++ (codes "=" ++ octets_of_value a.1)

-- an attribute
abbrev pub attribute_text : List ℕ × List ℕ → List ℕ
attribute_text a = named_text a (short_name a.0)

-- ---- names (RFC 4514 2.1, 2.2)

-- texts, with one text before the first and another before each further one
abbrev pub separated : List ℕ → List ℕ → List (List ℕ) → List ℕ
separated before between [] = []
separated before between (text ∷ texts) = before ++ (text ++ separated between between texts)

-- a part: its attributes, with + between them
abbrev pub part_text : List (List ℕ × List ℕ) → List ℕ
part_text attributes = separated [] (codes "+") (map attribute_text attributes)

-- parts, with a comma and a space between them
abbrev pub parts_text : List (List (List ℕ × List ℕ)) → List ℕ
parts_text parts = separated [] (codes ", ") (map part_text parts)

-- what is there, or nothing
abbrev pub or_nothing : {X : Type 0} → Option (List X) → List X
or_nothing None = []
or_nothing (Some xs) = xs

-- a Name
abbrev pub name_text : List ℕ → List ℕ
name_text octets = or_nothing (name_values_at octets >>= λ v. Some (parts_text v.0))
