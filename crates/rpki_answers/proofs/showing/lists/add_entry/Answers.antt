use Rattle.rpki_answers.proofs.showing.lists.add_entry.Goals as goal

pub returns : goal.returns
returns c = rw (c.in_ok-serial.ensures, c.in_ok-date.ensures) at c.add_revocation.ensures
