use Rattle.rpki_document.proofs.Built.{ended_with}
use Rattle.rpki_answers.proofs.tree_document.unaccepted.add_limited_row.Goals as goal

pub returns : goal.returns
returns c =
    ended_with c.add_head.result _ _ _ c.add_head.ensures
    (rw (c.in_ok-push_limit.ensures, c.in_ok-pieces.ensures.items, c.key.ensures, c.label.ensures))
