use Rattle.rpki_answers.proofs.verdict_document.add_time.Goals as goal

pub returns : goal.returns
returns c = rw c.in_ok-leaf.ensures at c.add_told.ensures
