use Rattle.rpki_answers.proofs.tree_document.ends.add_searched.Goals as goal

pub returns-in-OutOfSteps : goal.returns-in-OutOfSteps
returns-in-OutOfSteps c = rw c.in-OutOfSteps.is c.add_limited-in-OutOfSteps.ensures
