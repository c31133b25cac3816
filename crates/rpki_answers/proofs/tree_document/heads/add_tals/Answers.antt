use Rattle.std.specs.Prelude.{codes}
use Rattle.std.proofs.Common.{◌∙◌, List, [], ◌∷◌, ◌++◌, map, ap}
use Rattle.std.proofs.lemmas.List.{take_all}
use Rattle.rpki_document.specs.Building.{nodes_of}
use Rattle.rpki_document.specs.Documents.{Node, document_of, each}
use Rattle.rpki_document.proofs.Built.{ended_with}
use Rattle.rpki_verdicts.specs.declared.parts.TreePart.{TreePart}
use Rattle.rpki_answers.specs.TreeDocuments.{tal_node}
use Rattle.rpki_answers.proofs.TreeRowsInOrder.{node_next}
use Rattle.rpki_answers.proofs.tree_document.heads.add_tals.Goals as goal

pub loop-part-preserved : goal.loop-part-preserved
loop-part-preserved c =
    let l = c.loop-part in
    node_next tal_node c.deref-part-items.result.now l.part-index c.part-item.result [] l.each.items c.add_tal.new.parts.items
    c.loop-part-test.true c.part-item.is l.invariant c.in_ok-add_tal.ensures

pub returns : goal.returns
returns c =
    let l = c.loop-part in
    let old = nodes_of c.args.parts.now.items in
    let all = l.invariant ∙ ap (λ (ps : List TreePart). map tal_node ps)
    (take_all l.part-index c.deref-part-items.result.now c.loop-part-test.false ∙
    c.deref-part-items.ensures.value) in
    ended_with c.add_each.result _ _ _ c.add_each.ensures (ap (λ (ns : List Node). old ++ each (codes "tals") (document_of ns) ∷ []) all)
