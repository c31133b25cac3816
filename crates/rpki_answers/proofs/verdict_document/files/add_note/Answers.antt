use Rattle.rpki_answers.proofs.verdict_document.files.add_note.Goals as goal

pub returns : goal.returns
returns c = rw (c.in_ok-pieces.ensures.items, c.name.ensures, c.says.ensures, c.section.ensures) at c.add_item.ensures
