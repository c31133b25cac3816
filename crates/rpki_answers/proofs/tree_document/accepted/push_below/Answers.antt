use Rattle.std.proofs.Common.{◌≡◌, ◌∙◌, ℕ, List, [], ◌∷◌, ◌++◌, codes, get_or, map, take, sym, ap, append_assoc}
use Rattle.std.proofs.lemmas.List.{append-nil, take_all}
use Rattle.rpki_document.specs.Building.{spans_of}
use Rattle.rpki_document.specs.Documents.{Span, inner, say, show}
use Rattle.rpki_answers.specs.TreeDocuments.{below_spans, name_of}
use Rattle.rpki_answers.proofs.TreeRowsInOrder.{place_more}
use Rattle.rpki_answers.proofs.tree_document.accepted.push_below.Goals as goal

pub loop-place-init : goal.loop-place-init
loop-place-init c = sym (append-nil (spans_of c.args.pieces.now.items))

pub loop-place-preserved : goal.loop-place-preserved
loop-place-preserved c =
    let l = c.loop-place in
    let places = c.args.places.now in
    let certs = map (λ f. f.now) c.args.certs.now in
    let i = l.place-index in
    let old = spans_of c.args.pieces.now.items in
    let f : ℕ → List Span = λ place. say (codes " > ") ∷ show (inner (name_of certs place)) ∷ [] in
    let one : spans_of c.push_arrow.new.pieces.items ≡ spans_of l.pieces.items ++ f (get_or places i 0) =
    rw c.name_of.ensures at c.in_ok-push_arrow.ensures in
    one ∙ ap (λ (s : List Span). s ++ f (get_or places i 0)) l.invariant
    ∙ append_assoc old (below_spans certs (take i places)) (f (get_or places i 0))
    ∙ ap (λ (s : List Span). old ++ s) (sym (place_more f places i c.loop-place-test.true))

pub returns : goal.returns
returns c =
    let l = c.loop-place in
    l.invariant ∙ ap (λ (p : List ℕ). spans_of c.args.pieces.now.items ++
    below_spans (map (λ f. f.now) c.args.certs.now) p)
    (take_all l.place-index c.args.places.now c.loop-place-test.false)
