use Rattle.rpki_document.proofs.Built.{then_ended}
use Rattle.rpki_answers.proofs.showing.lists.add_updates.Goals as goal

pub returns : goal.returns
returns c =
    then_ended c.add_until.result _ _ _ _ _
    (rw c.in_ok-since.ensures at c.in_ok-add_told.ensures)
    c.add_until.ensures
