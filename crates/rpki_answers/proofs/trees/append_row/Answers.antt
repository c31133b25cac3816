use Rattle.std.specs.Prelude.{OnOk}
use Rattle.std.proofs.Common.{◌≡◌, ◌∙◌, ◌++◌, ℕ, List, map, string_bytes, subst, sym}
use Rattle.rpki_document.specs.Building.{nodes_of}
use Rattle.rpki_answers.proofs.PrintedAs.{rendered_as}
use Rattle.rpki_answers.proofs.TreeRowsInOrder.{append_printed, append_unprinted}
use Rattle.rpki_answers.proofs.trees.append_row.Goals as goal

pub returns-then-is_printed : goal.returns-then-is_printed
returns-then-is_printed c =
    let whole = c.in_ok-parts.ensures in
    let format = c.args.options.format in
    append_printed c.args.options.only_rejected (map (λ f. f.now) c.args.certs.now) format c.append.result c.args.row.now
    whole.0 _ _ (sym c.is_printed.ensures ∙ c.if-is_printed.true) whole.1
    (subst (λ (l : List ℕ). OnOk c.append.result (string_bytes c.append.new.out ≡ string_bytes c.args.out.now ++ l))
    (rendered_as format (nodes_of c.in_ok-parts.parts.items) whole.0 whole.2) c.append.ensures)

pub returns : goal.returns
returns c =
    append_unprinted c.args.options.only_rejected (map (λ f. f.now) c.args.certs.now) c.args.options.format
    c.args.row.now (string_bytes c.args.out.now)
    (sym c.is_printed.ensures ∙ c.if-is_printed.false)
