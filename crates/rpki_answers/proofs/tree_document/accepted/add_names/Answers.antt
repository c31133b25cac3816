use Rattle.std.proofs.Common.{◌≡◌, ◌∙◌, ◌+◌, ℕ, List, [], ◌∷◌, ◌++◌, get_or, map, take, sym, ap, subst}
use Rattle.std.proofs.lemmas.List.{map-append, take_all, take_more}
use Rattle.rpki_document.specs.Building.{Adds}
use Rattle.rpki_document.specs.Documents.{Node, kept_node, text}
use Rattle.rpki_document.proofs.Built.{nothing_added, then_added}
use Rattle.rpki_answers.specs.TreeDocuments.{above_nodes, name_of}
use Rattle.rpki_answers.proofs.tree_document.accepted.add_names.Goals as goal

pub loop-place-init : goal.loop-place-init
loop-place-init c = nothing_added c.args.parts.now.items

pub loop-place-preserved : goal.loop-place-preserved
loop-place-preserved c =
    let l = c.loop-place in
    let places = c.args.places.now in
    let certs = map (λ f. f.now) c.args.certs.now in
    let i = l.place-index in
    let place = get_or places i 0 in
    let one : Adds (kept_node [] (text (name_of certs place)) ∷ []) l.parts.items c.add_kept.new.parts.items =
    rw c.name_of.ensures at c.in_ok-add_kept.ensures in
    let more : above_nodes certs (take (i + 1) places) ≡ above_nodes certs (take i places) ++
    kept_node [] (text (name_of certs place)) ∷ [] =
    ap (λ (p : List ℕ). above_nodes certs p) (take_more places i 0 c.loop-place-test.true) ∙
    map-append (λ place. kept_node [] (text (name_of certs place))) (take i places) (place ∷ []) in
    subst (λ (nodes : List Node). Adds nodes c.args.parts.now.items c.add_kept.new.parts.items) (sym more)
    (then_added c.args.parts.now.items l.parts.items c.add_kept.new.parts.items (above_nodes certs (take i places))
    (kept_node [] (text (name_of certs place)) ∷ []) l.invariant one)

pub returns : goal.returns
returns c =
    let l = c.loop-place in
    subst (λ (p : List ℕ). Adds (above_nodes (map (λ f. f.now) c.args.certs.now) p) c.args.parts.now.items
    l.parts.items) (take_all l.place-index c.args.places.now c.loop-place-test.false) l.invariant
