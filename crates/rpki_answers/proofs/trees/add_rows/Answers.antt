use Rattle.std.proofs.Common.{map}
use Rattle.rpki_answers.proofs.TreeRowsInOrder.{add_all, add_next, add_none}
use Rattle.rpki_answers.proofs.trees.add_rows.Goals as goal

pub loop-row-init : goal.loop-row-init
loop-row-init c = add_none c.args.only_rejected (map (λ f. f.now) c.args.certs.now) c.args.files.now.items

pub loop-row-preserved : goal.loop-row-preserved
loop-row-preserved c =
    let l = c.loop-row in
    add_next c.args.only_rejected (map (λ f. f.now) c.args.certs.now) c.args.rows.now l.row-index c.row-item.result
    c.args.files.now.items l.files.items c.add_row.new.files.items c.loop-row-test.true c.row-item.is l.invariant c.in_ok-add_row.ensures

pub returns : goal.returns
returns c =
    let l = c.loop-row in
    add_all c.args.only_rejected (map (λ f. f.now) c.args.certs.now) c.args.rows.now l.row-index
    c.args.files.now.items l.files.items c.loop-row-test.false l.invariant
