use Rattle.std.proofs.Common.{append_assoc}
use Rattle.rpki_document.proofs.Built.{ended_with}
use Rattle.rpki_answers.proofs.showing.lists.add_list.Goals as goal

pub returns : goal.returns
returns c =
    ended_with c.add_revoked.result _ _ _ (rw c.revoked_certs.ensures at c.add_revoked.ensures)
    (rw (c.in_ok-add_updates.ensures, c.this_update.ensures, c.next_update-until.ensures, c.in_ok-add_head.ensures) (simp append_assoc))
