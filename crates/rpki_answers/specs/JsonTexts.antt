-- The text of values of JSON.
use Rattle.std.specs.Char.Escape.{encode_utf16}
use Rattle.std.specs.List.{flat_map}
use Rattle.std.specs.Prelude.{ℕ, Bool, false, ◌/◌, ◌%◌, ◌==◌, ◌||◌, if◌then◌else◌, List, [], ◌∷◌, ◌++◌}
use Rattle.std.specs.Str.{chars}
use Rattle.json.specs.Layout.{pretty}
use Rattle.json.specs.Tree.{json_tokens}
use Rattle.rpki_parts.specs.NameTexts.{is_visible}
use Rattle.rpki_der.specs.Texts.{hexadecimal}
use Rattle.serde_json.specs.Data.{Data}
use Rattle.serde_json.specs.Written.{compact_text, outline}
use Rattle.rpki_document.specs.Texts.{line_feed}
use Rattle.rpki_document.specs.Documents.{array_of}
use Rattle.rpki_text.specs.declared.command_line.arguments.Format.{Format}
use Rattle.rpki_text.specs.declared.command_line.arguments.Format.TheVariants.{Json, JsonLines}

-- ---- in ASCII (RFC 8259 7)

-- a 16-bit unit of a character: `\u` and four hexadecimal digits
abbrev pub unit_text : ℕ → List ℕ
unit_text unit = 92 ∷ 117 ∷ hexadecimal (unit / 256 ∷ unit % 256 ∷ [])

-- a character: as it stands where it is visible ASCII, a space or a line feed, else by its units in
-- UTF-16, so that no terminal is told anything by it
abbrev pub ascii_character : ℕ → List ℕ
ascii_character c = if is_visible c || (c == 10) then c ∷ [] else flat_map unit_text (encode_utf16 c)

-- the characters of a text in UTF-8
abbrev pub in_ascii : List ℕ → List ℕ
in_ascii text = flat_map ascii_character (chars text)

-- ---- a value

-- a value without floats: each item and member on a line, two spaces deeper for each bracket, and a
-- line end (own; RFC 8259)
unfoldable pub json_lines : Data → List ℕ
json_lines d = in_ascii (pretty (json_tokens (outline d))) ++ line_feed

-- a value without floats on one line, and a line end (own; jsonlines.org)
unfoldable pub json_line : Data → List ℕ
json_line d = in_ascii (compact_text d) ++ line_feed

-- a value in a format of JSON
abbrev pub json_value_text : Format → Data → List ℕ
json_value_text JsonLines d = json_line d
json_value_text _ d = json_lines d

-- ---- the values of files

-- in a format of JSON: one value after the other; but in `json`, where not just one file is named,
-- one array of them
abbrev pub values_text : Format → Bool → List Data → List ℕ
values_text Json false values = json_lines (array_of values)
values_text format is_single values = flat_map (json_value_text format) values
