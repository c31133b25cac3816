-- How values and lines are laid out: labels, and values from column 26 on (own).
use Rattle.std.specs.List.{AllByRecursion, flat_map}
use Rattle.std.specs.Prelude.{ℕ, ◌+◌, ◌-◌, ◌/◌, ◌%◌, ◌==◌, ◌&&◌, ◌||◌, nat_lt, not, Bool, false, IsTrue, if◌then◌else◌, List}
use Rattle.std.specs.Prelude.{[], ◌∷◌, ◌++◌, length, replicate, codes}
use Rattle.rpki_document.specs.declared.leaves.Escape.{Escape}
use Rattle.rpki_document.specs.declared.leaves.Escape.TheVariants.{Text, Inner, Printed}

-- ---- octets

-- an upper-case hexadecimal digit
abbrev pub digit : ℕ → ℕ
digit n = if nat_lt n 10 then 48 + n else 55 + n

-- an octet, in two digits
abbrev pub two_digits : ℕ → List ℕ
two_digits octet = digit (octet / 16) ∷ digit (octet % 16) ∷ []

-- octets in two digits each, with colons between them
abbrev pub colons_text : List ℕ → List ℕ
colons_text [] = []
colons_text (octet ∷ octets) = two_digits octet ++ flat_map (λ more. 58 ∷ two_digits more) octets

-- a visible character of ASCII or a space
abbrev pub is_visible : ℕ → Bool
is_visible octet = nat_lt 31 octet && nat_lt octet 127

-- an octet as `\x` and two digits
abbrev pub escaped : ℕ → List ℕ
escaped octet = 92 ∷ 120 ∷ two_digits octet

-- what sets the parts of a line apart: a colon, a comma, `>`, an opening parenthesis
abbrev pub separates : ℕ → Bool
separates octet = octet == 58 || octet == 44 || octet == 62 || octet == 40

-- a visible octet is escaped too: a backslash; and a separator, in a text behind which more follows in
-- its line; but none in a text that has escapes of its own
abbrev pub escapes : Escape → ℕ → Bool
escapes Text octet = octet == 92
escapes Inner octet = octet == 92 || separates octet
escapes Printed octet = false

-- an octet stands for itself
abbrev pub stands : Escape → ℕ → Bool
stands escape octet = is_visible octet && not (escapes escape octet)

-- an octet: as it stands, or escaped
abbrev pub character_text : Escape → ℕ → List ℕ
character_text escape octet = if stands escape octet then octet ∷ [] else escaped octet

abbrev pub escaped_text : Escape → List ℕ → List ℕ
escaped_text escape octets = flat_map (character_text escape) octets

-- octets as characters; as such a text with more behind it; as one that has escapes of its own
abbrev pub characters_text : List ℕ → List ℕ
characters_text octets = escaped_text Text octets

abbrev pub inner_text : List ℕ → List ℕ
inner_text octets = escaped_text Inner octets

abbrev pub printed_text : List ℕ → List ℕ
printed_text octets = escaped_text Printed octets

-- a text of visible characters: it doesn't leave its line
abbrev pub AreVisible : List ℕ → Type 0
AreVisible text = AllByRecursion (λ octet. IsTrue (is_visible octet)) text

-- a text without a separator
abbrev pub IsUnseparated : List ℕ → Type 0
IsUnseparated text = AllByRecursion (λ octet. IsTrue (not (separates octet))) text

-- whether something is so
abbrev pub flag_text : Bool → List ℕ
flag_text is_so = if is_so then codes "yes" else codes "no"

-- ---- lines

-- a line feed
abbrev pub line_feed : List ℕ
line_feed = 10 ∷ []

-- the spaces behind a label and its colon, up to column 26
abbrev pub pad : List ℕ → List ℕ
pad label = replicate (25 - length label) 32

-- a label, a colon, and spaces up to column 26
abbrev pub label_text : List ℕ → List ℕ
label_text label = label ++ (58 ∷ pad label)

-- a label, a colon and a space: the head of an answer
abbrev pub head_text : List ℕ → List ℕ
head_text label = label ++ (58 ∷ 32 ∷ [])

-- where a further line of a label begins
abbrev pub further_margin : List ℕ
further_margin = replicate 26 32
