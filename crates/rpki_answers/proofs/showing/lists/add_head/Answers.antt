use Rattle.std.proofs.Common.{append_assoc}
use Rattle.rpki_document.proofs.Built.{ended_with}
use Rattle.rpki_answers.proofs.showing.lists.add_head.Goals as goal

pub returns : goal.returns
returns c =
    ended_with c.add_told-4.result _ _ _ c.add_told-4.ensures
    (rw (
      c.in_ok-number.ensures,
      c.crl_number.ensures,
      c.in_ok-add_told-3.ensures,
      c.in_ok-key.ensures,
      c.authority_key_identifier.ensures,
      c.in_ok-add_told-2.ensures,
      c.in_ok-issuer.ensures,
      c.issuer.ensures,
      c.in_ok-add_told.ensures,
    ) (simp append_assoc))
