use Rattle.std.proofs.Common.{length}
use Rattle.std.specs.Str.Lines.{lines}
use Rattle.rpki_keys.specs.Sections.{FollowComments}
use Rattle.rpki_keys.proofs.tal.sections.behind_comments.Given as goal

-- all lines before the rest are comments
abbrev pub invariant-loop-line : goal.invariant-loop-line
invariant-loop-line l = FollowComments (lines l.file) (lines l.rest)

abbrev pub decreases-loop-line : goal.decreases-loop-line
decreases-loop-line l = length l.rest
