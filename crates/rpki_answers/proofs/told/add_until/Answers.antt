use Rattle.rpki_answers.proofs.told.add_until.Goals as goal

pub returns : goal.returns
returns c = rw (c.in_ok-pieces.ensures.items, c.in_ok-until.ensures, c.in_ok-state.ensures) at c.add_line.ensures
