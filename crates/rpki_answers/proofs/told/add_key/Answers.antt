use Rattle.std.proofs.Common.{append_assoc}
use Rattle.rpki_document.proofs.Built.{ended_with}
use Rattle.rpki_answers.proofs.told.add_key.Goals as goal

pub returns : goal.returns
returns c =
    ended_with c.add_point.result _ _ _ c.add_point.ensures
    (rw (
      c.in_ok-add_form.ensures,
      c.in_ok-add_key_line.ensures,
      c.algorithm_word-algorithm.ensures,
      c.form_word-form.ensures,
    ) (simp append_assoc))
