use Rattle.rpki_answers.proofs.tree_document.accepted.add_more_line.Goals as goal

pub returns : goal.returns
returns c = rw c.in_ok-pieces.ensures.items at c.add_further.ensures
