use Rattle.rpki_answers.proofs.verdict_document.files.add_not_a_locator.Goals as goal

pub returns-in-Err : goal.returns-in-Err
returns-in-Err c = rw c.in-Err.ensures.err (rw c.name.ensures at c.add_told.ensures)
