use Rattle.rpki_answers.proofs.TreeRowsInOrder.{two_pushed}
use Rattle.rpki_answers.proofs.tree_document.accepted.push_arrow.Goals as goal

pub returns : goal.returns
returns c = two_pushed _ _ _ _ _ c.in_ok-push.ensures.items c.in_ok-push-2.ensures.items
