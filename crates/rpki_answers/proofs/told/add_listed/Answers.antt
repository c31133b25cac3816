use Rattle.std.proofs.Common.{append_assoc}
use Rattle.rpki_document.proofs.Built.{ended_with}
use Rattle.rpki_answers.proofs.told.add_listed.Goals as goal

pub returns : goal.returns
returns c =
    ended_with c.add_ip_resources-2.result _ _ _ c.add_ip_resources-2.ensures
    (rw (
      c.v6_resources-v6.ensures,
      c.in_ok-add_ip_resources.ensures,
      c.v4_resources-v4.ensures,
      c.in_ok-add_as_resources.ensures,
      c.as_resources.ensures,
    ) (simp append_assoc))
