use Rattle.rpki_verdicts.proofs.parts.part_of.Goals as goal

pub returns-clause-part : goal.returns-clause-part
returns-clause-part c = c.in_ok-answer-in-Ok.ensures c.args.locator.now c.in-Ok.ensures.ok
