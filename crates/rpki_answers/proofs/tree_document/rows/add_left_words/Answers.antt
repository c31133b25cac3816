use Rattle.rpki_answers.proofs.tree_document.rows.add_left_words.Goals as goal

pub returns : goal.returns
returns c = rw c.in_ok-pieces.ensures.items at c.add_further.ensures
