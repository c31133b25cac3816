use Rattle.std.proofs.Common.{append_assoc}
use Rattle.rpki_document.proofs.Built.{ended_with}
use Rattle.rpki_answers.proofs.tree_document.limits.push_steps_limit.Goals as goal

pub returns-in-None : goal.returns-in-None
returns-in-None c = rw c.in-None.is c.push_limit_word.ensures

pub returns-in_ok-push_limit_word-in-Some : goal.returns-in_ok-push_limit_word-in-Some
returns-in_ok-push_limit_word-in-Some c =
    rw c.in-Some.is
    (ended_with c.push_steps.result _ _ _ c.push_steps.ensures (rw c.in_ok-push_limit_word-in-Some.ensures (simp append_assoc)))
