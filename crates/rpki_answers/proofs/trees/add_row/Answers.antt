use Rattle.std.proofs.Common.{◌≡◌, ◌∙◌, map, sym}
use Rattle.rpki_document.specs.Building.{nodes_of}
use Rattle.rpki_answers.proofs.TreeRowsInOrder.{add_printed, add_unprinted}
use Rattle.rpki_answers.proofs.trees.add_row.Goals as goal

pub returns-then-is_printed : goal.returns-then-is_printed
returns-then-is_printed c =
    let whole = c.in_ok-parts.ensures in
    let same : nodes_of c.in_ok-parts.parts.items ≡ whole.0 = whole.2 in
    add_printed c.args.only_rejected (map (λ f. f.now) c.args.certs.now) c.add_inside.result c.args.row.now
    whole.0 _ _ (sym c.is_printed.ensures ∙ c.if-is_printed.true) whole.1 (rw same at c.add_inside.ensures)

pub returns : goal.returns
returns c =
    add_unprinted c.args.only_rejected (map (λ f. f.now) c.args.certs.now) c.args.row.now c.args.files.now.items
    (sym c.is_printed.ensures ∙ c.if-is_printed.false)
