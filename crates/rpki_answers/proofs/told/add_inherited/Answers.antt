use Rattle.rpki_answers.proofs.told.add_inherited.Goals as goal

pub returns : goal.returns
returns c = rw c.in_ok-pieces.ensures.items at c.add_item.ensures
