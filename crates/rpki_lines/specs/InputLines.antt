-- The lines of the line program's input, each alone (own).
use Rattle.std.specs.Prelude.{◌≡◌, ℕ, ◌^◌, ◌<◌, Bool, true, false, List, [], ◌∷◌, ◌++◌, codes}
use Rattle.std.specs.List.{concat}
use Rattle.std.specs.Int.Digits.{number_from_digits}
use Rattle.rpki_der.specs.Times.{Moment, IsMoment, fourteen_digits}
use Rattle.rpki_lines.specs.HexWords.{IsHexWord}
use Rattle.rpki_path.specs.declared.validating.Leaf.{Leaf}
use Rattle.rpki_path.specs.declared.validating.Leaf.TheVariants.{Ee, DetachedEe}

-- ---- `revoked LIST SERIAL`

-- the line of a list of revoked certificates and a serial number
abbrev pub revoked_line : List ℕ → List ℕ → List ℕ
revoked_line list serial = concat (codes "revoked " ∷ list ∷ codes " " ∷ serial ∷ [])

-- the serial is a number below 2^160 (RFC 5280 4.1.2.2)
pub record IsRevokedLine (list : List ℕ) (serial : ℕ) (line : List ℕ) : Type 0 where
  pub list_word : List ℕ
  pub serial_word : List ℕ
  pub serial_octets : List ℕ
  pub list_is : IsHexWord list list_word
  pub octets_are : IsHexWord serial_octets serial_word
  pub serial_is : serial ≡ number_from_digits 256 serial_octets
  pub small : serial < 2 ^ 160
  pub is : line ≡ revoked_line list_word serial_word

-- ---- `at YYYYMMDDhhmmss`

-- the moment exists, in the years 0 to 9999
pub record IsMomentLine (now : Moment) (line : List ℕ) : Type 0 where
  pub exists : IsMoment now
  pub is : line ≡ codes "at " ++ fourteen_digits now

-- ---- `ta HEX` and its like

-- a name, and octets as a word behind it
pub record IsOctetsLine (name octets line : List ℕ) : Type 0 where
  pub word : List ℕ
  pub word_is : IsHexWord octets word
  pub is : line ≡ name ++ word

-- ---- lines of all kinds

-- what a line tells
pub data InputLine : Type 0 where
  seeks : List ℕ → ℕ → InputLine
  at_moment : Moment → InputLine
  strictness : Bool → InputLine
  anchor authority : List ℕ → InputLine
  end_entity : Leaf → InputLine

-- the line tells it
abbrev pub IsInputLine : InputLine → List ℕ → Type 0
IsInputLine (seeks list serial) line = IsRevokedLine list serial line
IsInputLine (at_moment now) line = IsMomentLine now line
IsInputLine (strictness true) line = line ≡ codes "strict"
IsInputLine (strictness false) line = line ≡ codes "lenient"
IsInputLine (anchor octets) line = IsOctetsLine (codes "ta ") octets line
IsInputLine (authority octets) line = IsOctetsLine (codes "ca ") octets line
IsInputLine (end_entity (Ee octets)) line = IsOctetsLine (codes "ee ") octets line
IsInputLine (end_entity (DetachedEe octets)) line = IsOctetsLine (codes "detached ") octets line
