use Rattle.rpki_answers.proofs.tree_document.heads.add_anchored.Goals as goal

pub returns : goal.returns
returns c = rw (c.in_ok-pieces.ensures.items, c.ended_word.ensures, c.name_of.ensures, c.deref.ensures.value) at c.add_head.ensures
