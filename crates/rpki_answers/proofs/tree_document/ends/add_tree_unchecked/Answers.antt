use Rattle.std.proofs.Common.{append_assoc}
use Rattle.rpki_document.proofs.Built.{ended_with}
use Rattle.rpki_answers.proofs.tree_document.ends.add_tree_unchecked.Goals as goal

pub returns : goal.returns
returns c =
    ended_with c.add_unchecked-2.result _ _ _ c.add_unchecked-2.ensures
    (rw (c.in_ok-add_unchecked_names.ensures, c.in_ok-add_unchecked.ensures) (simp append_assoc))
