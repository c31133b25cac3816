use Rattle.std.proofs.Common.{append_assoc}
use Rattle.rpki_document.proofs.Built.{ended_with}
use Rattle.rpki_answers.proofs.showing.certificates.add_fields.Goals as goal

pub returns : goal.returns
returns c =
    ended_with c.add_told-5.result _ _ _ c.add_told-5.ensures
    (rw (
      c.in_ok-subject.ensures,
      c.subject.ensures,
      c.in_ok-add_told-4.ensures,
      c.in_ok-issuer.ensures,
      c.issuer.ensures,
      c.in_ok-add_told-3.ensures,
      c.in_ok-add_told-2.ensures,
      c.in_ok-serial.ensures,
      c.serial_number.ensures,
      c.in_ok-add_told.ensures,
    ) (simp append_assoc))
