use Rattle.std.proofs.Common.{append_assoc}
use Rattle.rpki_document.proofs.Built.{ended_with}
use Rattle.rpki_answers.proofs.tree_document.ends.add_end.Goals as goal

pub returns : goal.returns
returns c =
    ended_with c.add_tree_asked.result _ _ _ c.add_tree_asked.ensures
    (rw (
      c.in_ok-add_tree_unchecked.ensures,
      c.in_ok-add_searched.ensures,
      c.ended.ensures,
      c.in_ok-add_damage.ensures,
      c.in_ok-add_unread.ensures,
      c.in_ok-add_errors.ensures,
      c.in_ok-add_all_counts.ensures,
      c.in_ok-add_time.ensures,
    )
    (simp append_assoc))
