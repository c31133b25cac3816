-- What holds of the rows of files in no order, whatever the files' names are.
use Rattle.std.specs.List.{AllByRecursion}
use Rattle.std.specs.Prelude.{◌≡◌, ◌+◌, ℕ, List, ◌∷◌, length}
use Rattle.rpki_document.specs.Documents.{Node, document_of}
use Rattle.rpki_document.specs.Lines.{Row as Line, labelled, under, document_rows}
use Rattle.rpki_files.specs.Files.{FileFields}
use Rattle.rpki_answers.specs.TreeDocuments.{IsRowDocument, count_of, word_label, word_of}
use Rattle.rpki_answers.specs.declared.tree_rows.Row.{Row}
use Rattle.rpki_answers.specs.declared.tree_rows.Word.TheVariants as word

-- the line has no label of its own
abbrev pub IsUnlabelled : Line → Type 0
IsUnlabelled (labelled label behind) = ⊥
IsUnlabelled (under said) = Unit {0}

-- the document of a row is one line, whose label is the word for what is said of the file, and lines
-- without labels below it
abbrev pub RowsBeginWithTheirWord : Type 0
RowsBeginWithTheirWord =
    (certs : List FileFields) (row : Row) (nodes : List Node) → IsRowDocument certs row nodes
    → (behind : List ℕ) × (more : List Line) × AllByRecursion IsUnlabelled more
    × (document_rows (document_of nodes) ≡ labelled (word_label (word_of row.said)) behind ∷ more)

-- each row is counted under one word
abbrev pub CountsAddUp : Type 0
CountsAddUp =
    (rows : List Row)
    → count_of word.Anchor rows + count_of word.Accepted rows + count_of word.Rejected rows
    + count_of word.BelowRejected rows + count_of word.BelowUnseen rows
    + count_of word.NotLookedAt rows + count_of word.NotIssued rows + count_of word.NotCa rows
    + count_of word.NoIssuer rows + count_of word.Crl rows + count_of word.Neither rows ≡ length rows
