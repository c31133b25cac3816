use Rattle.std.proofs.Common.{append_assoc}
use Rattle.rpki_document.proofs.Built.{ended_with}
use Rattle.rpki_answers.proofs.tree_document.counts.add_damage.Goals as goal

pub returns : goal.returns
returns c =
    ended_with c.add_told-4.result _ _ _ c.add_told-4.ensures
    (rw (
      c.are_anchors.ensures,
      c.in_ok-add_told-3.ensures,
      c.in_ok-add_told-2.ensures,
      c.in_ok-add_told.ensures,
      c.in_ok-unasked.ensures,
    ) (simp append_assoc))
