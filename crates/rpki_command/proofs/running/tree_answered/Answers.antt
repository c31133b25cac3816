use Rattle.rpki_command.proofs.WholeAnswers.{read_given, whole_answer}
use Rattle.rpki_command.proofs.running.tree_answered.Goals as goal

pub answer_tree-requires-clause-given : goal.answer_tree-requires-clause-given
answer_tree-requires-clause-given g c =
    read_given _ _ _ _ _ _ _ _ _ c.deref.ensures.value c.deref-2.ensures.value c.deref-3.ensures.value c.in_ok-given.ensures.1

pub returns : goal.returns
returns g c =
    let read = c.in_ok-given.ensures in
    let its = c.in_ok-answer.ensures in (
      read.0,
      whole_answer _ _ _ _ _ _ _ _ _ c.deref.ensures.value c.deref-2.ensures.value c.deref-3.ensures.value
          read.1 _ _ _ its.ends its.text its.json,
      read.2,
    )
