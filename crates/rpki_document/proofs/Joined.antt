-- What is said of several pieces or parts, one behind the other.
use Rattle.std.specs.Prelude.{Result, Ok, Err, OnOk, Vec}
use Rattle.std.specs.declared.alloc.Global.{Global}
use Rattle.std.proofs.Common.{Bor, rules, subst}
use Rattle.std.proofs.lemmas.List.{append_assoc, append-nil, map-append}
use Rattle.serde_json.specs.View.{view}
use Rattle.serde_json.specs.declared.value.Value.{Value}
use Rattle.rpki_document.specs.Documents as doc
use Rattle.std.proofs.Common.{◌≡◌, ◌⊎◌, ◌∙◌, ℕ, List, [], ◌∷◌, ◌++◌, inl, inr, map, refl, sym, ap}
use Rattle.serde_json.specs.Data.{Data, Members}
use Rattle.rpki_document.specs.Documents.{Node, document_of, document_text, document_members, node_text, node_members}
use Rattle.rpki_document.specs.Documents.{Pair, put_all, object_of, list_of, span_text, span_members, spans_text}
use Rattle.rpki_document.specs.Views.{Making, making_object, making_list, with_pairs, Puts, part_view}
use Rattle.rpki_document.specs.Views.{node_parts_text, parts_members}
use Rattle.rpki_document.specs.declared.as_json.Gathered.{Gathered}
use Rattle.rpki_document.specs.declared.parts.Part.{Part, Inside, Each, Aside, the_lemmas}

-- ---- a document is gone over part by part

pub text_of_parts : (ps : List Part) → document_text (document_of (map part_view ps)) ≡ node_parts_text ps
text_of_parts [] = refl
text_of_parts (p ∷ ps) = ap (λ (l : List ℕ). node_text (part_view p) ++ l) (text_of_parts ps)

pub members_of_parts : (ps : List Part) → document_members (document_of (map part_view ps)) ≡ parts_members ps
members_of_parts [] = refl
members_of_parts (p ∷ ps) = ap (λ (l : List Pair). node_members (part_view p) ++ l) (members_of_parts ps)

-- ---- members

put_in_turn : (a b : List Pair) (ms : Members) → put_all (a ++ b) ms ≡ put_all b (put_all a ms)
put_in_turn [] b ms = refl
put_in_turn (pair ∷ a) b ms = put_in_turn a b _

pub put_both : (a b : List Pair) (m : Making) → with_pairs (a ++ b) m ≡ with_pairs b (with_pairs a m)
put_both a b (making_object ms) = ap making_object (put_in_turn a b ms)
put_both a b (making_list ds) =
    ap making_list (ap (λ (l : List Data). ds ++ l) (map-append (λ (p : Pair). p.1) a b)
    ∙ sym (append_assoc ds (map (λ p. p.1) a) (map (λ p. p.1) b)))

-- ---- parts inside

pub view-Inside : (key : Bor (List ℕ)) (ps : Vec Part Global) →
    part_view (Inside key ps) ≡ doc.inside key.now (document_of (map part_view ps.items))
view-Inside key ps = search (rules, the_lemmas)

pub view-Each : (key : Bor (List ℕ)) (ps : Vec Part Global) →
    part_view (Each key ps) ≡ doc.each key.now (document_of (map part_view ps.items))
view-Each key ps = search (rules, the_lemmas)

pub view-Aside : (ps : Vec Part Global) → part_view (Aside ps) ≡ doc.aside (document_of (map part_view ps.items))
view-Aside ps = search (rules, the_lemmas)

-- parts that are in no line
pub written_aside : (old : List ℕ) (p : Part) (ps : List Part) →
    part_view p ≡ doc.aside (document_of (map part_view ps)) → old ≡ old ++ node_text (part_view p)
written_aside old p ps is = sym (ap (λ (n : Node). old ++ node_text n) is ∙ append-nil old)

pub put_aside : {T E : Type 0} (r : Result T E) (old new : Gathered) (p : Part) (ps : List Part) →
    part_view p ≡ doc.aside (document_of (map part_view ps)) → OnOk r (Puts (parts_members ps) old new) →
    OnOk r (Puts (node_members (part_view p)) old new)
put_aside r old new p ps is e = subst (λ (l : List Pair). OnOk r (Puts l old new)) (sym (ap node_members is ∙ members_of_parts ps)) e

-- the text of parts is that of the part that they are inside of
pub written_inside : {T E : Type 0} (r : Result T E) (old new : List ℕ) (p : Part) (ps : Vec Part Global) →
    ((key : Bor (List ℕ)) × p ≡ Inside key ps) ⊎ ((key : Bor (List ℕ)) × p ≡ Each key ps) →
    OnOk r (new ≡ old ++ node_parts_text ps.items) → OnOk r (new ≡ old ++ node_text (part_view p))
written_inside (Err x) old new p ps is e = tt
written_inside (Ok x) old new p ps (inl (key, is)) e =
    e ∙ ap (λ (l : List ℕ). old ++ l) (sym (ap node_text (ap part_view is ∙ view-Inside key ps) ∙ text_of_parts ps.items))
written_inside (Ok x) old new p ps (inr (key, is)) e =
    e ∙ ap (λ (l : List ℕ). old ++ l) (sym (ap node_text (ap part_view is ∙ view-Each key ps) ∙ text_of_parts ps.items))

-- the value of parts, put in under their key
pub put_value : {T E : Type 0} (r : Result T E) (old new : Gathered) (key : List ℕ) (p : Part) (made : Value) (d : Data) →
    node_members (part_view p) ≡ (key, d) ∷ [] → view made ≡ d → OnOk r (Puts ((key, view made) ∷ []) old new) →
    OnOk r (Puts (node_members (part_view p)) old new)
put_value r old new key p made d is value e =
    subst (λ (l : List Pair). OnOk r (Puts l old new)) (ap (λ (d : Data). (key, d) ∷ []) value ∙ sym is) e
