use Rattle.std.proofs.Common.{rules}
use Rattle.rpki_keys.specs.Locators.{IsComment}
use Rattle.rpki_keys.proofs.SectionsRead.{comment_follows}
use Rattle.rpki_keys.proofs.tal.sections.behind_comments.Goals as goal

pub loop-line-preserved : goal.loop-line-preserved
loop-line-preserved c =
    let comment : IsComment c.first_line.result.0.now = search rules in
    comment_follows _ _ _ c.first_line.result.0.now c.loop-line.invariant c.first_line.ensures.lines comment
