use Rattle.rpki_document.proofs.Built.{then_ended}
use Rattle.rpki_answers.proofs.showing.certificates.add_validity.Goals as goal

pub returns : goal.returns
returns c =
    then_ended c.add_until.result _ _ _ _ _
    (rw (c.in_ok-since.ensures, c.not_before.ensures) at c.in_ok-add_told.ensures)
    (rw (c.not_before.ensures, c.not_after.ensures) at c.add_until.ensures)
