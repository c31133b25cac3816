use Rattle.rpki_answers.proofs.showing.certificates.add_noted.Goals as goal

pub returns : goal.returns
returns c = rw c.in_ok-pieces.ensures.items at c.add_item.ensures
