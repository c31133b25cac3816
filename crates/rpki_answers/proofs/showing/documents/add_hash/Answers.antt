use Rattle.rpki_answers.proofs.showing.documents.add_hash.Goals as goal

pub returns : goal.returns
returns c = rw (c.in_ok-pieces.ensures.items, c.in_ok-digits.ensures, c.in_ok-base64.ensures) at c.add_line.ensures
