use Rattle.rpki_answers.proofs.details.add_bound.Goals as goal

pub returns : goal.returns
returns c = rw (c.in_ok-pieces.ensures.items, c.in_ok-bound.ensures, c.in_ok-at.ensures) at c.add_line.ensures
