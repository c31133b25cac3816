use Rattle.std.proofs.Common.{append_assoc}
use Rattle.rpki_answers.proofs.tree_document.ends.no_locator_document.Goals as goal

pub returns : goal.returns
returns c =
    rw (
      c.in_ok-add_time.ensures,
      c.in_ok-add_each.ensures,
      c.in_ok-add_not_locators.ensures,
      c.new-others.ensures.items,
      c.in_ok-add_unjudged.ensures,
      c.new-parts.ensures.items,
    )
    (simp append_assoc)
