-- What holds of the text and of the JSON of every document.
use Rattle.std.specs.List.{AllByRecursion, flat_map}
use Rattle.std.specs.Prelude.{◌≡◌, ◌++◌, ◌∷◌, ℕ, IsTrue, false, List}
use Rattle.serde_json.specs.Written.{has_float}
use Rattle.rpki_document.specs.Documents.{Document, document_json, document_text}
use Rattle.rpki_document.specs.Lines.{AreOctets, Row, row_text, document_rows, IsMade, IsRow}
use Rattle.rpki_document.specs.Texts.{AreVisible, IsUnseparated, characters_text, inner_text, separates}

-- a text is these lines, each with its label, and each says visible characters of ASCII alone
pub record AreItsLines (text : List ℕ) (rows : List Row) : Type 0 where
  pub lines : text ≡ flat_map row_text rows
  pub visible : AllByRecursion IsRow rows

-- the text of a document is that of its lines: no value makes another one, or ends one
abbrev pub LinesAreItsOwn : Type 0
LinesAreItsOwn = (d : Document) → IsMade d → AreItsLines (document_text d) (document_rows d)

-- documents of one text say the same under the same labels
abbrev pub TextTells : Type 0
TextTells =
    (d e : Document) → IsMade d → IsMade e → document_text d ≡ document_text e → document_rows d ≡ document_rows e

-- octets as characters are visible
abbrev pub CharactersAreVisible : Type 0
CharactersAreVisible = (octets : List ℕ) → AreOctets octets → AreVisible (characters_text octets)

-- and no two lists of octets are printed alike
abbrev pub CharactersAreApart : Type 0
CharactersAreApart =
    (one other : List ℕ) → AreOctets one → AreOctets other → characters_text one ≡ characters_text other → one ≡ other

-- a text behind which more follows in its line is visible
abbrev pub InnerTextsAreVisible : Type 0
InnerTextsAreVisible = (octets : List ℕ) → AreOctets octets → AreVisible (inner_text octets)

-- no separator is in it
abbrev pub InnerTextsAreUnseparated : Type 0
InnerTextsAreUnseparated = (octets : List ℕ) → AreOctets octets → IsUnseparated (inner_text octets)

-- two such texts with a separator behind each are equal only if their octets are, and what follows
abbrev pub InnerTextsAreApart : Type 0
InnerTextsAreApart =
    (one other : List ℕ) (c d : ℕ) (behind after : List ℕ) → AreOctets one → AreOctets other
    → IsTrue (separates c) → IsTrue (separates d)
    → inner_text one ++ c ∷ behind ≡ inner_text other ++ d ∷ after
    → (one ≡ other) × (c ∷ behind ≡ d ∷ after)

-- the JSON of a document has no floats
abbrev pub JsonIsWhole : Type 0
JsonIsWhole = (d : Document) → has_float (document_json d) ≡ false
