use Rattle.std.proofs.Common.{◌≡◌}
use Rattle.rpki_verdicts.specs.TreeParts.{are_told_below}
use Rattle.rpki_verdicts.proofs.parts.Trees.are_told.Given as goal

abbrev pub invariant-loop-place : goal.invariant-loop-place
invariant-loop-place l = l.are_told ≡ are_told_below l.self.parts.items l.most l.place
