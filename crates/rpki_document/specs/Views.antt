-- The document that is built, and what is done to texts and to values of JSON.
use Rattle.std.specs.List.{flat_map}
use Rattle.std.specs.Prelude.{◌≡◌, ℕ, List, ◌++◌, map, string_bytes}
use Rattle.serde_json.specs.Data.{Data, Members, object}
use Rattle.serde_json.specs.View.{view, members_view}
use Rattle.rpki_document.specs.Documents.{ToldValue, Span, Node, Document, document_of, Pair, put_all, array_of}
use Rattle.rpki_document.specs.Documents.{span_text, span_members, node_text, node_members}
use Rattle.rpki_document.specs.Documents as doc
use Rattle.rpki_document.specs.declared.as_json.Gathered.{Gathered}
use Rattle.rpki_document.specs.declared.as_json.Gathered.TheVariants.{Object, Array}
use Rattle.rpki_document.specs.declared.parts.Leaf.{Leaf}
use Rattle.rpki_document.specs.declared.parts.Leaf.TheVariants as leaf
use Rattle.rpki_document.specs.declared.parts.Piece.{Piece}
use Rattle.rpki_document.specs.declared.parts.Piece.TheVariants as piece
use Rattle.rpki_document.specs.declared.parts.Part.{Part, fold-Part}
use Rattle.rpki_document.specs.declared.parts.Part.TheOpen.{Part-F}

abbrev pub leaf_view : Leaf → ToldValue
leaf_view (leaf.Text t) = doc.text t.now
leaf_view (leaf.Inner t) = doc.inner t.now
leaf_view (leaf.Characters os) = doc.characters os.now
leaf_view (leaf.Words said word) = doc.words said.now word.now
leaf_view (leaf.Count n) = doc.count n
leaf_view (leaf.Octets os) = doc.octets os.now
leaf_view (leaf.Flag is_so) = doc.flag is_so
leaf_view (leaf.Own t) = doc.text (string_bytes t)
leaf_view (leaf.Printed t) = doc.printed (string_bytes t)
leaf_view (leaf.Dated said n) = doc.dated (string_bytes said) n

abbrev pub piece_view : Piece → Span
piece_view (piece.Say said) = doc.say said.now
piece_view (piece.Tell key told) = doc.tell key.now (leaf_view told)
piece_view (piece.Show told) = doc.show (leaf_view told)
piece_view (piece.Keep key told) = doc.keep key.now (leaf_view told)

-- one level, with each part inside already seen
abbrev pub part_step : Part-F Node → Node
part_step (Part-F.Head label pieces) = doc.head label.now (map piece_view pieces.items)
part_step (Part-F.Line label pieces) = doc.line label.now (map piece_view pieces.items)
part_step (Part-F.Further pieces) = doc.further (map piece_view pieces.items)
part_step (Part-F.Unsaid pieces) = doc.unsaid (map piece_view pieces.items)
part_step (Part-F.Inside key parts) = doc.inside key.now (document_of parts.items)
part_step (Part-F.Each key parts) = doc.each key.now (document_of parts.items)
part_step (Part-F.Aside parts) = doc.aside (document_of parts.items)

abbrev pub part_view : Part → Node
part_view = fold-Part Node part_step

abbrev pub document_view : List Part → Document
document_view parts = document_of (map part_view parts)

-- ---- what parts say, one behind the other

abbrev pub node_parts_text : List Part → List ℕ
node_parts_text parts = flat_map (λ p. node_text (part_view p)) parts

abbrev pub parts_members : List Part → List Pair
parts_members parts = flat_map (λ p. node_members (part_view p)) parts

-- ---- members and values of JSON

-- an object that is being made, or a list
pub data Making : Type 0 where
  making_object : Members → Making
  making_list : List Data → Making

-- with these members, of which a list takes the values
abbrev pub with_pairs : List Pair → Making → Making
with_pairs pairs (making_object ms) = making_object (put_all pairs ms)
with_pairs pairs (making_list ds) = making_list (ds ++ map (λ pair. pair.1) pairs)

-- what is made
abbrev pub made_json : Making → Data
made_json (making_object ms) = object ms
made_json (making_list ds) = array_of ds

abbrev pub making_view : Gathered → Making
making_view (Object members) = making_object (members_view members.entries)
making_view (Array values) = making_list (map view values.items)

-- new is old with these members
abbrev pub Puts : List Pair → Gathered → Gathered → Type 0
Puts pairs old new = making_view new ≡ with_pairs pairs (making_view old)
