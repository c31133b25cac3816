use Rattle.rpki_document.proofs.Built.{then_ended}
use Rattle.rpki_answers.proofs.showing.documents.add_tal_key.Goals as goal

pub returns : goal.returns
returns c =
    then_ended c.add_told.result _ _ _ _ _
    (rw (c.in_ok-add_key.ensures, c.new-own.ensures.items, c.in_ok-said.ensures, c.key_info-key.ensures) at c.in_ok-add_inside.ensures)
    (rw (c.in_ok-identifier.ensures, c.key_identifier.ensures, c.key_info-key.ensures) at c.add_told.ensures)
