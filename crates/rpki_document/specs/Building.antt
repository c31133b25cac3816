-- Documents that are being built.
use Rattle.std.specs.Prelude.{◌≡◌, List, ◌++◌, map}
use Rattle.rpki_document.specs.Documents.{Node, Span}
use Rattle.rpki_document.specs.Views.{part_view, piece_view}
use Rattle.rpki_document.specs.declared.parts.Part.{Part}
use Rattle.rpki_document.specs.declared.parts.Piece.{Piece}

-- what the parts so far say
abbrev pub nodes_of : List Part → List Node
nodes_of parts = map part_view parts

-- what these pieces say
abbrev pub spans_of : List Piece → List Span
spans_of pieces = map piece_view pieces

-- new is old with this behind it
abbrev pub Adds : List Node → List Part → List Part → Type 0
Adds nodes old new = nodes_of new ≡ nodes_of old ++ nodes

-- new is old with something behind it of which this holds
abbrev pub AddsSome : (List Node → Type 0) → List Part → List Part → Type 0
AddsSome Hold old new = (nodes : List Node) × Hold nodes × Adds nodes old new
