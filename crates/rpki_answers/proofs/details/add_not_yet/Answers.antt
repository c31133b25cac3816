use Rattle.rpki_answers.proofs.details.add_not_yet.Goals as goal

pub returns : goal.returns
returns c = rw (c.not_before-bound.ensures, c.validity.ensures, c.as_tbs.ensures) at c.add_bound.ensures
