use Rattle.std.proofs.Common.{append_assoc}
use Rattle.rpki_document.proofs.Built.{ended_with}
use Rattle.rpki_answers.proofs.showing.certificates.add_resources.Goals as goal

pub returns : goal.returns
returns c =
    ended_with c.add_each.result _ _ _ c.add_each.ensures
    (rw (
      c.in_ok-add_listed.ensures,
      c.new-listed.ensures.items,
      c.in_ok-add_told.ensures,
      c.overclaim_leaf-leaf.ensures,
      c.overclaim.ensures,
    ) (simp append_assoc))
