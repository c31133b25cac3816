use Rattle.std.proofs.Common.{◌∙◌, ℕ, List, sym, ap}
use Rattle.rpki_answers.specs.TreeDocuments.{with_unasked}
use Rattle.rpki_answers.proofs.TreeRowsInOrder.{unasked_next}
use Rattle.rpki_answers.proofs.tree_document.counts.count_unasked.Goals as goal

pub loop-row-preserved : goal.loop-row-preserved
loop-row-preserved c =
    let l = c.loop-row in
    let rows = c.args.rows.now in
    let row = c.row-item.result in
    c.in_ok-add_unasked.ensures
    ∙ ap (λ (ks : List (List ℕ)). with_unasked ks row.unasked) l.invariant
    ∙ sym (unasked_next rows l.row-index row c.loop-row-test.true c.row-item.is)
