use Rattle.rpki_answers.proofs.tree_document.limits.push_limit.Goals as goal

pub returns-in-Depth : goal.returns-in-Depth
returns-in-Depth c = rw c.in-Depth.is c.push_limit_word.ensures

pub returns-in-Steps : goal.returns-in-Steps
returns-in-Steps c = rw c.in-Steps.is c.push_steps_limit.ensures
