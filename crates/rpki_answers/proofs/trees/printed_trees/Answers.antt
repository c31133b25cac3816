use Rattle.std.proofs.lemmas.Result.{IfOk-weaker}
use Rattle.rpki_answers.proofs.trees.printed_trees.Goals as goal

pub returns : goal.returns
returns c =
    IfOk-weaker c.printed_rows.result
    _ _ (λ _ said. (c.in_ok-rows.rows.items, c.in_ok-rows.ensures, rw c.deref.ensures.value at said))
    c.printed_rows.ensures
