-- Names (RFC 5280 4.1.2.4).
use Rattle.std.specs.Prelude.{ℕ, Bool, List, [], ◌∷◌, Option, Some, None, is_some}
use Rattle.rpki_der.specs.BasicFormats.{object_identifier}
use Rattle.rpki_der.specs.Choices.{whole}
use Rattle.rpki_der.specs.FormatChoices.{kept}
use Rattle.rpki_der.specs.Formats.{Format, SEQUENCE_WITH, SEQUENCE_OF, SET_OF_SOME, ◌∶◌, ◌⨟◌, part}
use Rattle.rpki_der.specs.Skipping.{levels, IsSkippableWithin}
use Rattle.rpki_der.specs.Skipping.Reading.{skip_within}
use Rattle.rpki_der.specs.Values.{IsEnc}
use Rattle.rpki_der.specs.Values.Reading.{◌>>=◌}
use Rattle.rpki_der.specs.Writers.{Part}

-- id-at-commonName: 2.5.4.3 (RFC 5280 A.1)
abbrev pub common_name : List ℕ
common_name = 0x55 ∷ 0x04 ∷ 0x03 ∷ []

-- id-at-serialNumber: 2.5.4.5 (RFC 5280 A.1)
abbrev pub serial_number : List ℕ
serial_number = 0x55 ∷ 0x04 ∷ 0x05 ∷ []

-- what of an AttributeTypeAndValue is told apart: the content of its type, and the identifier octet
-- of its value
pub record Attribute : Type 0 where
  pub type_id : List ℕ
  pub value_tag : ℕ

-- reads past a value that can be skipped, and gives its identifier octet
abbrev pub tag_within : ℕ → List ℕ → Option (ℕ × List ℕ)
tag_within depth [] = None
tag_within depth (tag ∷ bytes) = do
  v ← skip_within depth (tag ∷ bytes)
  Some (tag, v.1)

-- any value that can be skipped, of which the identifier octet is kept; it can't be written
abbrev pub skipped_value : ℕ → Format ℕ
skipped_value depth = record {
  encodes = λ tag b. (content : List ℕ) × IsEnc tag content b × IsSkippableWithin depth b;
  read = tag_within depth;
  fits = λ tag. ⊥;
  written = λ tag. [];
  inside = λ tag. [];
  heads = None;
  least = 1;
  shut = [];
}

-- AttributeTypeAndValue ::= SEQUENCE {
--   type AttributeType, value AttributeValue }   (RFC 5280 4.1.2.4)
-- of the value no more is tested than that it can be skipped (own)
unfoldable pub attribute_format : ℕ → Format Attribute
attribute_format depth = SEQUENCE_WITH (λ x. record { type_id = x.0; value_tag = x.1 })
    ((λ a. a.type_id) ∶ object_identifier
    ⨟ (λ a. a.value_tag) ∶ skipped_value depth)

-- RelativeDistinguishedName ::= SET SIZE (1..MAX) OF AttributeTypeAndValue   (RFC 5280 4.1.2.4)
-- the order of the attributes isn't tested (own)
unfoldable pub relative_distinguished_name_format : ℕ → Format (List Attribute)
relative_distinguished_name_format depth = SET_OF_SOME (attribute_format depth)

-- RDNSequence ::= SEQUENCE OF RelativeDistinguishedName   (RFC 5280 4.1.2.4)
unfoldable pub rdn_sequence_format : ℕ → Format (List (List Attribute))
rdn_sequence_format depth = SEQUENCE_OF (relative_distinguished_name_format depth)

-- Name ::= CHOICE { rdnSequence RDNSequence }   (RFC 5280 4.1.2.4)
-- kept as it stands
unfoldable pub name_format : ℕ → Format (List ℕ)
name_format depth = kept (rdn_sequence_format depth)

-- a Name is encoded so
abbrev pub IsNameWithin : ℕ → List ℕ → List ℕ → Type 0
IsNameWithin depth = (name_format depth).encodes

-- and so it is under the bound of depth that readers keep
abbrev pub IsName : List ℕ → List ℕ → Type 0
IsName = IsNameWithin levels

-- whether the octets are a Name and nothing else
abbrev pub is_name : List ℕ → Bool
is_name octets = is_some (whole (rdn_sequence_format levels).read octets)

-- what is written of a Name: its octets as they stand
abbrev pub name_part : List ℕ → Part
name_part = part (name_format levels)
