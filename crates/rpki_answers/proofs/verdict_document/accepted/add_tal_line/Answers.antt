use Rattle.rpki_answers.proofs.verdict_document.accepted.add_tal_line.Goals as goal

pub returns : goal.returns
returns c = rw (c.in_ok-pieces.ensures.items, c.in_ok-key.ensures, c.uris_word.ensures) at c.add_line.ensures
