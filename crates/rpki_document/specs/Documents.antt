-- A document: what an answer says, once. Its text and its JSON are two readings of it (own).
use Rattle.std.specs.Fmt.{decimal}
use Rattle.std.specs.List.{flat_map}
use Rattle.std.specs.Prelude.{ℕ, ℤ, Bool, List, [], ◌∷◌, ◌++◌, map}
use Rattle.serde_json.specs.Data.{Data, boolean, number, unsigned, string, array, object, Members, no_members, put}
use Rattle.serde_json.specs.Find.{of_integer}
use Rattle.serde_json.specs.View.{items_of}
use Rattle.rpki_document.specs.Texts.{characters_text, inner_text, printed_text, colons_text, flag_text, label_text}
use Rattle.rpki_document.specs.Texts.{head_text, further_margin, line_feed}

-- ---- values

-- a text that anyone may have chosen; such a text behind which more follows in its line; a text that
-- has escapes of its own; octets as characters, in both forms; a word for a person and one for a
-- program; a count; octets; whether something is so; a number that is words for a person, as a time is
pub data ToldValue : Type 0 where
  text : List ℕ → ToldValue
  inner : List ℕ → ToldValue
  printed : List ℕ → ToldValue
  characters : List ℕ → ToldValue
  words : List ℕ → List ℕ → ToldValue
  count : ℕ → ToldValue
  octets : List ℕ → ToldValue
  flag : Bool → ToldValue
  dated : List ℕ → ℤ → ToldValue

-- in a line: what isn't visible is escaped, so that it stays in its line
abbrev pub told_text : ToldValue → List ℕ
told_text (text t) = characters_text t
told_text (inner t) = inner_text t
told_text (printed t) = printed_text t
told_text (characters os) = characters_text os
told_text (words said word) = characters_text said
told_text (count n) = decimal n
told_text (octets os) = colons_text os
told_text (flag is_so) = flag_text is_so
told_text (dated said n) = characters_text said

abbrev pub told_json : ToldValue → Data
told_json (text t) = string t
told_json (inner t) = string t
told_json (printed t) = string t
told_json (characters os) = string (characters_text os)
told_json (words said word) = string word
told_json (count n) = number (unsigned n)
told_json (octets os) = string (colons_text os)
told_json (flag is_so) = boolean is_so
told_json (dated said n) = number (of_integer n)

-- ---- lines and what they are parts of

-- a piece of a line: words of the line alone; a value under a key; a value that has no key; a value
-- that isn't in the line
pub data Span : Type 0 where
  say : List ℕ → Span
  tell : List ℕ → ToldValue → Span
  show : ToldValue → Span
  keep : List ℕ → ToldValue → Span

mutual
  -- the head of an answer; a line; a further line of the label above; values that are in no line;
  -- parts under a key, as an object or as a list; parts that are in no line
  pub data Node : Type 0 where
    head : List ℕ → List Span → Node
    line : List ℕ → List Span → Node
    further : List Span → Node
    unsaid : List Span → Node
    inside : List ℕ → Document → Node
    each : List ℕ → Document → Node
    aside : Document → Node

  -- parts, one behind the other
  pub data Document : Type 0 where
    nothing : Document
    part : Node → Document → Document

-- the document of these parts
abbrev pub document_of : List Node → Document
document_of [] = nothing
document_of (p ∷ ps) = part p (document_of ps)

-- a line of one value, under a key
abbrev pub told_line : List ℕ → List ℕ → ToldValue → Node
told_line label key told = line label (tell key told ∷ [])

-- an object that is one line
abbrev pub item_node : List ℕ → List Span → Node
item_node label spans = inside [] (document_of (line label spans ∷ []))

-- a value that is in no line, under a key
abbrev pub kept_node : List ℕ → ToldValue → Node
kept_node key told = unsaid (keep key told ∷ [])

-- ---- as text

abbrev pub span_text : Span → List ℕ
span_text (say said) = characters_text said
span_text (tell key told) = told_text told
span_text (show told) = told_text told
span_text (keep key told) = []

abbrev pub spans_text : List Span → List ℕ
spans_text spans = flat_map span_text spans

abbrev mutual
  pub node_text : Node → List ℕ
  node_text (head label spans) = head_text label ++ (spans_text spans ++ line_feed)
  node_text (line label spans) = label_text label ++ (spans_text spans ++ line_feed)
  node_text (further spans) = further_margin ++ (spans_text spans ++ line_feed)
  node_text (unsaid spans) = []
  node_text (inside key d) = document_text d
  node_text (each key d) = document_text d
  node_text (aside d) = []

  -- the text of a document
  pub document_text : Document → List ℕ
  document_text nothing = []
  document_text (part p d) = node_text p ++ document_text d

-- ---- as JSON (RFC 8259)

-- a member: its name and its value
abbrev pub Pair : Type 0
Pair = List ℕ × Data

abbrev pub put_all : List Pair → Members → Members
put_all [] ms = ms
put_all (pair ∷ more) ms = put_all more (put pair.0 pair.1 ms)

-- the object of these members
abbrev pub object_of : List Pair → Data
object_of pairs = object (put_all pairs no_members)

-- the list of these values
abbrev pub array_of : List Data → Data
array_of values = array (items_of values)

-- in a list names count for nothing
abbrev pub list_of : List Pair → Data
list_of pairs = array_of (map (λ pair. pair.1) pairs)

abbrev pub span_members : Span → List Pair
span_members (say said) = []
span_members (tell key told) = (key, told_json told) ∷ []
span_members (show told) = []
span_members (keep key told) = (key, told_json told) ∷ []

abbrev mutual
  pub node_members : Node → List Pair
  node_members (head label spans) = flat_map span_members spans
  node_members (line label spans) = flat_map span_members spans
  node_members (further spans) = flat_map span_members spans
  node_members (unsaid spans) = flat_map span_members spans
  node_members (inside key d) = (key, object_of (document_members d)) ∷ []
  node_members (each key d) = (key, list_of (document_members d)) ∷ []
  node_members (aside d) = document_members d

  pub document_members : Document → List Pair
  document_members nothing = []
  document_members (part p d) = node_members p ++ document_members d

-- the JSON of a document
abbrev pub document_json : Document → Data
document_json d = object_of (document_members d)
