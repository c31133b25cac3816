use Rattle.std.proofs.Common.{append_assoc}
use Rattle.rpki_document.proofs.Built.{ended_with}
use Rattle.rpki_answers.proofs.tree_document.unaccepted.add_rejected.Goals as goal

pub returns : goal.returns
returns c =
    ended_with c.add_fault.result _ _ _ c.add_fault.ensures
    (rw (c.in_ok-add_index.ensures, c.in_ok-add_rejected_head.ensures) (simp append_assoc))
