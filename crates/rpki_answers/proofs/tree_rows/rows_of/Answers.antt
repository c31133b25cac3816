use Rattle.std.proofs.Common.{◌+◌, List, take, arith, sym, subst}
use Rattle.rpki_answers.proofs.TreeRowsInOrder.{all_rows, next_row}
use Rattle.rpki_answers.specs.TreeRows.{AreRowsFrom}
use Rattle.rpki_answers.specs.declared.tree_rows.Row.{Row}
use Rattle.rpki_answers.proofs.tree_rows.rows_of.Goals as goal

pub loop-file-preserved : goal.loop-file-preserved
loop-file-preserved c =
    let l = c.loop-file in
    let trees = c.args.trees.now in
    let files = c.args.files.now in
    let i = l.file-index in
    let next = c.in_ok-next.next in
    let few = c.in_ok-next.ensures.next in
    let before = l.invariant.few in
    record {
      few = omega arith;
      rows = subst (λ (rows : List Row). AreRowsFrom trees 0 next (take (i + 1) files) rows) (sym c.in_ok-push.ensures.items)
          (next_row trees files i l.place next c.file-item.result l.rows.items _ c.loop-file-test.true c.file-item.is
          l.invariant.rows c.in_ok-next.ensures.row);
    }

pub returns : goal.returns
returns c =
    let l = c.loop-file in
    all_rows c.args.trees.now c.args.files.now l.file-index l.place l.rows.items c.loop-file-test.false l.invariant.rows
