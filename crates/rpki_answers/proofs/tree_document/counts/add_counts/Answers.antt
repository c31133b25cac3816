use Rattle.std.proofs.Common.{append_assoc}
use Rattle.rpki_document.proofs.Built.{ended_with}
use Rattle.rpki_answers.proofs.tree_document.counts.add_counts.Goals as goal

pub returns : goal.returns
returns c =
    ended_with c.add_count-11.result _ _ _ c.add_count-11.ensures
    (rw (
      c.in_ok-add_count-10.ensures,
      c.in_ok-add_count-9.ensures,
      c.in_ok-add_count-8.ensures,
      c.in_ok-add_count-7.ensures,
      c.in_ok-add_count-6.ensures,
      c.in_ok-add_count-5.ensures,
      c.in_ok-add_count-4.ensures,
      c.in_ok-add_count-3.ensures,
      c.in_ok-add_count-2.ensures,
      c.in_ok-add_count.ensures,
    )
    (simp append_assoc))
