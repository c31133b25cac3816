use Rattle.rpki_document.proofs.Built.{then_ended}
use Rattle.rpki_answers.proofs.details.add_description.Goals as goal

pub returns : goal.returns
returns c =
    then_ended c.add_told-2.result _ _ _ _ _
    (rw c.describe-told.ensures.name at c.in_ok-add_told.ensures)
    (rw c.describe-told.ensures.advice at c.add_told-2.ensures)
