use Rattle.std.proofs.Common.{append_assoc}
use Rattle.rpki_document.proofs.Built.{ended_with}
use Rattle.rpki_answers.proofs.showing.certificates.add_keys.Goals as goal

pub returns : goal.returns
returns c =
    ended_with c.add_told-2.result _ _ _ c.add_told-2.ensures
    (rw (
      c.usage_leaf-usage.ensures,
      c.key_usage.ensures,
      c.in_ok-add_identifier.ensures,
      c.authority_key_identifier-above.ensures,
      c.in_ok-add_told.ensures,
      c.in_ok-identifier.ensures,
      c.subject_key_identifier.ensures,
      c.in_ok-add_inside.ensures,
      c.in_ok-add_key.ensures,
      c.new-own.ensures.items,
      c.in_ok-said.ensures,
      c.subject_public_key_info-key.ensures,
    ) (simp append_assoc))
