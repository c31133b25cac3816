-- The JSON of a document has no floats.
use Rattle.std.specs.Ordering.{match_ordering, nat_cmp}
use Rattle.std.specs.Cmp.Lexicographic.{slice_cmp}
use Rattle.std.specs.List.{AllByRecursion, flat_map}
use Rattle.std.proofs.Common.{◌≡◌, ◌||◌, ℕ, List, [], ◌∷◌, ◌++◌, Bool, false, ℤ, pos, negsuc, refl, Ordering, Less, Equal, Greater}
use Rattle.std.proofs.lemmas.Bool.{or_parts}
use Rattle.serde_json.specs.Data.{Data, Members, no_members, member, put, number}
use Rattle.serde_json.specs.Find.{of_integer}
use Rattle.serde_json.specs.Written.{has_float, members_have_float}
use Rattle.rpki_document.specs.Documents.{ToldValue, text, inner, printed, characters, words, count, octets, flag, dated}
use Rattle.rpki_document.specs.Documents.{Span, say, tell, show, keep, Node, head, line, further, unsaid, inside}
use Rattle.rpki_document.specs.Documents.{each, aside, Document, nothing, part, Pair, put_all, list_of, told_json}
use Rattle.rpki_document.specs.Documents.{span_members, node_members, document_members, document_json}

-- ---- values, members, lists

abbrev LacksFloat : Data → Type 0
LacksFloat d = has_float d ≡ false

abbrev AreWhole : List Pair → Type 0
AreWhole pairs = AllByRecursion (λ (pair : Pair). LacksFloat pair.1) pairs

either_whole : (b c : Bool) → b ≡ false → c ≡ false → (b || c) ≡ false
either_whole b c p q = cc

one_of : (o : Ordering) (a b c : Members) → members_have_float a ≡ false → members_have_float b ≡ false
    → members_have_float c ≡ false → members_have_float (match_ordering o a b c) ≡ false
one_of Less a b c p q r = p
one_of Equal a b c p q r = q
one_of Greater a b c p q r = r

put_whole : (k : List ℕ) (d : Data) (ms : Members) → LacksFloat d → members_have_float ms ≡ false → members_have_float (put k d ms) ≡ false
put_whole k d no_members whole none = either_whole (has_float d) false whole refl
put_whole k d (member l e ms) whole none =
    let parts = or_parts (has_float e) (members_have_float ms) none in
    one_of (slice_cmp nat_cmp k l) (member k d (member l e ms)) (member l d ms) (member l e (put k d ms))
    (either_whole (has_float d) _ whole none)
    (either_whole (has_float d) _ whole parts.1)
    (either_whole (has_float e) _ parts.0 (put_whole k d ms whole parts.1))

all_whole : (pairs : List Pair) (ms : Members) → AreWhole pairs → members_have_float ms ≡ false →
    members_have_float (put_all pairs ms) ≡ false
all_whole [] ms are none = none
all_whole (pair ∷ more) ms are none = all_whole more _ are.1 (put_whole pair.0 pair.1 ms are.0 none)

items_whole : (pairs : List Pair) → AreWhole pairs → LacksFloat (list_of pairs)
items_whole [] are = refl
items_whole (pair ∷ more) are = either_whole (has_float pair.1) _ are.0 (items_whole more are.1)

both_pairs : (a b : List Pair) → AreWhole a → AreWhole b → AreWhole (a ++ b)
both_pairs [] b p q = q
both_pairs (pair ∷ a) b p q = (p.0, both_pairs a b p.1 q)

-- ---- pieces

integer_whole : (z : ℤ) → LacksFloat (number (of_integer z))
integer_whole (pos n) = refl
integer_whole (negsuc n) = refl

told_whole : (told : ToldValue) → LacksFloat (told_json told)
told_whole (text t) = refl
told_whole (inner t) = refl
told_whole (printed t) = refl
told_whole (characters os) = refl
told_whole (words said word) = refl
told_whole (count n) = refl
told_whole (octets os) = refl
told_whole (flag is_so) = refl
told_whole (dated said n) = integer_whole n

span_whole : (s : Span) → AreWhole (span_members s)
span_whole (say said) = tt
span_whole (tell key told) = (told_whole told, tt)
span_whole (show told) = tt
span_whole (keep key told) = (told_whole told, tt)

spans_whole : (spans : List Span) → AreWhole (flat_map span_members spans)
spans_whole [] = tt
spans_whole (s ∷ spans) = both_pairs (span_members s) _ (span_whole s) (spans_whole spans)

-- ---- parts

mutual
  node_whole : (p : Node) → AreWhole (node_members p)
  node_whole (head label spans) = spans_whole spans
  node_whole (line label spans) = spans_whole spans
  node_whole (further spans) = spans_whole spans
  node_whole (unsaid spans) = spans_whole spans
  node_whole (inside key d) = (all_whole (document_members d) _ (members_whole d) refl, tt)
  node_whole (each key d) = (items_whole (document_members d) (members_whole d), tt)
  node_whole (aside d) = members_whole d

  members_whole : (d : Document) → AreWhole (document_members d)
  members_whole nothing = tt
  members_whole (part p d) = both_pairs (node_members p) (document_members d) (node_whole p) (members_whole d)

-- the JSON of a document
pub json_whole : (d : Document) → has_float (document_json d) ≡ false
json_whole d = all_whole (document_members d) _ (members_whole d) refl
