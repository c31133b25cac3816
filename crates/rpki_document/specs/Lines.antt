-- The lines of a document's text, and what keeps them apart.
use Rattle.std.specs.List.{AllByRecursion}
use Rattle.std.specs.Prelude.{ℕ, ◌<◌, ◌^◌, ◌≢◌, List, [], ◌∷◌, ◌++◌}
use Rattle.rpki_document.specs.Documents.{ToldValue, text, inner, printed, characters, words, count, octets, flag, dated}
use Rattle.rpki_document.specs.Documents.{Span, say, tell, show, keep, Node, head, line, further, unsaid, inside}
use Rattle.rpki_document.specs.Documents.{each, aside, Document, nothing, part, spans_text}
use Rattle.rpki_document.specs.Texts.{AreVisible, pad, further_margin, line_feed}

-- a line: its label and what stands behind its colon, or what it says under the label above
pub data Row : Type 0 where
  labelled : List ℕ → List ℕ → Row
  under : List ℕ → Row

abbrev pub row_text : Row → List ℕ
row_text (labelled label behind) = label ++ (58 ∷ (behind ++ line_feed))
row_text (under said) = further_margin ++ (said ++ line_feed)

abbrev mutual
  pub node_rows : Node → List Row
  node_rows (head label spans) = labelled label (32 ∷ spans_text spans) ∷ []
  node_rows (line label spans) = labelled label (pad label ++ spans_text spans) ∷ []
  node_rows (further spans) = under (spans_text spans) ∷ []
  node_rows (unsaid spans) = []
  node_rows (inside key d) = document_rows d
  node_rows (each key d) = document_rows d
  node_rows (aside d) = []

  -- the lines of a document
  pub document_rows : Document → List Row
  document_rows nothing = []
  document_rows (part p d) = node_rows p ++ document_rows d

-- ---- what is required of a document: octets, counts of 64 bits, and labels without a colon, and
-- without a space before them

abbrev pub AreOctets : List ℕ → Type 0
AreOctets os = AllByRecursion (λ o. o < 256) os

abbrev pub BeginsPlain : List ℕ → Type 0
BeginsPlain [] = Unit {0}
BeginsPlain (o ∷ os) = o ≢ 32

abbrev pub IsLabel : List ℕ → Type 0
IsLabel label = BeginsPlain label × AllByRecursion (λ o. o ≢ 58) label

abbrev pub IsToldValue : ToldValue → Type 0
IsToldValue (text t) = AreOctets t
IsToldValue (inner t) = AreOctets t
IsToldValue (printed t) = AreOctets t
IsToldValue (characters os) = AreOctets os
IsToldValue (words said word) = AreOctets said
IsToldValue (count n) = n < 2 ^ 64
IsToldValue (octets os) = AreOctets os
IsToldValue (flag is_so) = Unit {0}
IsToldValue (dated said n) = AreOctets said

abbrev pub IsSpan : Span → Type 0
IsSpan (say said) = AreOctets said
IsSpan (tell key told) = IsToldValue told
IsSpan (show told) = IsToldValue told
IsSpan (keep key told) = Unit {0}

abbrev mutual
  pub IsNode : Node → Type 0
  IsNode (head label spans) = IsLabel label × AllByRecursion IsSpan spans
  IsNode (line label spans) = IsLabel label × AllByRecursion IsSpan spans
  IsNode (further spans) = AllByRecursion IsSpan spans
  IsNode (unsaid spans) = Unit {0}
  IsNode (inside key d) = IsMade d
  IsNode (each key d) = IsMade d
  IsNode (aside d) = Unit {0}

  -- the document is so made
  pub IsMade : Document → Type 0
  IsMade nothing = Unit {0}
  IsMade (part p d) = IsNode p × IsMade d

-- a line whose label is one, and that says visible characters alone
abbrev pub IsRow : Row → Type 0
IsRow (labelled label behind) = IsLabel label × AreVisible behind
IsRow (under said) = AreVisible said
