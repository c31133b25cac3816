use Rattle.std.proofs.Common.{append_assoc}
use Rattle.rpki_document.proofs.Built.{ended_with}
use Rattle.rpki_answers.proofs.showing.certificates.add_each_profile.Goals as goal

pub returns : goal.returns
returns c =
    ended_with c.add_profile-5.result _ _ _ c.add_profile-5.ensures
    (rw (
      c.in_ok-add_profile-4.ensures,
      c.in_ok-add_profile-3.ensures,
      c.in_ok-add_profile-2.ensures,
      c.in_ok-add_profile.ensures,
    ) (simp append_assoc))
