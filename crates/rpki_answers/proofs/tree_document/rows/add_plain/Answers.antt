use Rattle.rpki_answers.proofs.tree_document.rows.add_plain.Goals as goal

pub returns : goal.returns
returns c = rw (c.in_ok-pieces.ensures.items, c.key.ensures, c.label.ensures) at c.add_head.ensures
