use Rattle.rpki_answers.proofs.verdict_document.files.add_known.Goals as goal

pub returns : goal.returns
returns c = rw (c.in_ok-pieces.ensures.items, c.in_ok-serial.ensures, c.kind_leaf.ensures) at c.add_item.ensures
