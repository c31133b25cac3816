use Rattle.rpki_document.proofs.Built.{ended_with}
use Rattle.rpki_answers.proofs.tree_document.accepted.add_also_below.Goals as goal

pub returns : goal.returns
returns c =
    ended_with c.add_further.result _ _ _ c.add_further.ensures
    (rw (
      c.in_ok-push_same.ensures,
      c.in_ok-push_below.ensures,
      c.deref-2.ensures.value,
      c.in_ok-pieces.ensures.items,
      c.name_of.ensures,
      c.deref.ensures.value,
    ))
