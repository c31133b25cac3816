-- The name of a key (RFC 6487 4.5; the form is own).
use Rattle.std.specs.Prelude.{ℕ, List}
use Rattle.rpki_der.specs.BasicFormats.{object_identifier}
use Rattle.rpki_der.specs.Formats.{Format, SEQUENCE_WITH, any_octets, only, tagged, ◌∶◌, ◌⨟◌}
use Rattle.rpki_der.specs.Tags.{PRINTABLE_STRING, SEQUENCE, SET}
pub use Rattle.rpki_der.specs.Texts.{digit, hexadecimal}
use Rattle.rpki_parts.specs.Keys.{KeyFields, key_identifier}
use Rattle.rpki_parts.specs.Names.{common_name}

-- a CommonName, with a PrintableString
abbrev pub common_name_format : Format (List ℕ)
common_name_format = SEQUENCE_WITH (λ x. x.1)
    ((λ digits. tt) ∶ only common_name object_identifier
    ⨟ (λ digits. digits) ∶ any_octets PRINTABLE_STRING)

-- a Name with a CommonName alone
unfoldable pub key_name_format : Format (List ℕ)
key_name_format = tagged SEQUENCE (tagged SET common_name_format)

-- the name with these hexadecimal digits
abbrev pub name_of_digits : List ℕ → List ℕ
name_of_digits = key_name_format.written

-- the name of a key, by its identifier
abbrev pub subject_name : KeyFields → List ℕ
subject_name k = name_of_digits (hexadecimal (key_identifier k))
