-- The form of a name, tested attribute by attribute.
use Rattle.std.specs.Prelude.{ℕ, Bool, true, not, ◌&&◌, ◌||◌, ◌==◌, List, Option, Some, None, if◌then◌else◌, bytes_eq}
use Rattle.rpki_der.specs.Folding.{Step, over}
use Rattle.rpki_der.specs.Tags.{PRINTABLE_STRING, UTF8_STRING}
use Rattle.rpki_parts.specs.Names.{common_name, serial_number, Attribute}
use Rattle.rpki_der.specs.Skipping.{levels}
use Rattle.rpki_parts.specs.Names.{attribute_format}
use Rattle.rpki_parts.specs.declared.name_forms.ReadAttributes.{ReadAttributes}

-- whether the identifier octet is one of a string that may stand
abbrev pub is_text_tag : Bool → ℕ → Bool
is_text_tag strict tag = (tag == PRINTABLE_STRING) || (not strict && (tag == UTF8_STRING))

-- what is seen after, where the attribute wasn't seen before
abbrev pub unseen : Bool → ReadAttributes → Option ReadAttributes
unseen before after = if before then None else Some after

-- what was seen, with one attribute more; a second one of a type, another type or another string is
-- refused
abbrev pub seen_with : Bool → Step Attribute ReadAttributes
seen_with strict s a =
    if is_text_tag strict a.value_tag
    then (if bytes_eq a.type_id common_name then unseen s.name (record s { name = true })
    else (if bytes_eq a.type_id serial_number then unseen s.number (record s { number = true }) else None))
    else None

-- what was seen, with the attributes of one part more
abbrev pub seen_in : Bool → Step (List ℕ) ReadAttributes
seen_in strict s part = over (attribute_format levels).read (seen_with strict) s part
