use Rattle.rpki_answers.proofs.verdict_document.rejected.add_unjudged_head.Goals as goal

pub returns : goal.returns
returns c = rw c.in_ok-pieces.ensures.items at c.add_head.ensures
