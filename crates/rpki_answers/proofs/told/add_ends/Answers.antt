use Rattle.rpki_document.proofs.Built.{ended_with}
use Rattle.rpki_answers.proofs.told.add_ends.Goals as goal

pub returns : goal.returns
returns c =
    ended_with c.add_inside-2.result _ _ _ c.add_inside-2.ensures
    (rw (
      c.in_ok-add_inside.ensures,
      c.new-own.ensures.items,
      c.in_ok-add_at.ensures,
      c.new-ends.ensures.items,
      c.in_ok-pieces.ensures.items,
    ))
