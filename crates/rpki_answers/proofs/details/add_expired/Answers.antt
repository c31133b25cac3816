use Rattle.rpki_answers.proofs.details.add_expired.Goals as goal

pub returns : goal.returns
returns c = rw (c.not_after-bound.ensures, c.validity.ensures, c.as_tbs.ensures) at c.add_bound.ensures
