use Rattle.std.specs.Prelude.{Option, option_map}
use Rattle.std.proofs.Common.{◌∙◌, ℕ, Bor, List, take, sym, ap}
use Rattle.rpki_answers.specs.TreeDocuments.{errors_of, with_error}
use Rattle.rpki_answers.proofs.TreeRowsInOrder.{error_next}
use Rattle.rpki_answers.proofs.tree_document.counts.errors_of.Goals as goal

pub loop-row-preserved : goal.loop-row-preserved
loop-row-preserved c =
    let l = c.loop-row in
    let rows = c.args.rows.now in
    let row = c.row-item.result in
    c.in_ok-push_error.ensures
    ∙ ap (λ (ns : List (List ℕ)). with_error ns (option_map (λ (n : Bor (List ℕ)). n.now) c.error.result)) l.invariant
    ∙ ap (λ (e : Option (List ℕ)). with_error (errors_of (take l.row-index rows)) e) c.error.ensures
    ∙ sym (error_next rows l.row-index row c.loop-row-test.true c.row-item.is)
