use Rattle.std.specs.Prelude.{codes}
use Rattle.std.proofs.Common.{◌∙◌, ℕ, Bor, List, [], ◌∷◌, ◌++◌, map, sym, ap}
use Rattle.std.proofs.lemmas.List.{take_all}
use Rattle.rpki_document.specs.Building.{nodes_of}
use Rattle.rpki_document.specs.Documents.{Node, document_of, each}
use Rattle.rpki_document.proofs.Built.{ended_with}
use Rattle.rpki_answers.specs.TreeDocuments.{error_node}
use Rattle.rpki_answers.proofs.TreeRowsInOrder.{mapped_twice, node_more}
use Rattle.rpki_answers.proofs.tree_document.counts.add_errors.Goals as goal

pub loop-name-preserved : goal.loop-name-preserved
loop-name-preserved c =
    let l = c.loop-name in
    node_more (λ (n : Bor (List ℕ)). error_node c.args.rows.now n.now) c.deref-name-items.result.now l.name-index _ []
    l.each.items c.add_error.new.parts.items
    c.loop-name-test.true l.invariant c.in_ok-add_error.ensures

pub returns : goal.returns
returns c =
    let l = c.loop-name in
    let rows = c.args.rows.now in
    let old = nodes_of c.args.parts.now.items in
    let names = c.in_ok-names.names.items in
    let f = λ (n : Bor (List ℕ)). error_node rows n.now in
    let all = l.invariant ∙ ap (λ (ns : List (Bor (List ℕ))). map f ns)
    (take_all l.name-index c.deref-name-items.result.now c.loop-name-test.false ∙
    c.deref-name-items.ensures.value)
    ∙ sym (mapped_twice (error_node rows) (λ (n : Bor (List ℕ)). n.now) names) ∙ ap (map (error_node rows)) c.in_ok-names.ensures in
    ended_with c.add_each.result _ _ _ c.add_each.ensures (ap (λ (ns : List Node). old ++ each (codes "errors") (document_of ns) ∷ []) all)
