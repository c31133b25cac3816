use Rattle.rpki_answers.proofs.tree_document.heads.add_unanchored.Goals as goal

pub returns : goal.returns
returns c = rw c.in_ok-pieces.ensures.items at c.add_head.ensures
