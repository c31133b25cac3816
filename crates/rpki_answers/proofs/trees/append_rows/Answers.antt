use Rattle.std.proofs.Common.{map, string_bytes}
use Rattle.rpki_answers.proofs.TreeRowsInOrder.{append_all, append_next, append_none}
use Rattle.rpki_answers.proofs.trees.append_rows.Goals as goal

pub loop-row-init : goal.loop-row-init
loop-row-init c =
    append_none c.args.options.only_rejected (map (λ f. f.now) c.args.certs.now) c.args.options.format (string_bytes c.args.out.now)

pub loop-row-preserved : goal.loop-row-preserved
loop-row-preserved c =
    let l = c.loop-row in
    append_next c.args.options.only_rejected (map (λ f. f.now) c.args.certs.now) c.args.options.format c.args.rows.now
    l.row-index c.row-item.result
    (string_bytes c.args.out.now) (string_bytes l.out) (string_bytes c.append_row.new.out) c.loop-row-test.true
    c.row-item.is l.invariant c.in_ok-append_row.ensures

pub returns : goal.returns
returns c =
    let l = c.loop-row in
    append_all c.args.options.only_rejected (map (λ f. f.now) c.args.certs.now) c.args.options.format c.args.rows.now l.row-index
    (string_bytes c.args.out.now) (string_bytes l.out) c.loop-row-test.false l.invariant
