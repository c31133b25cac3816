use Rattle.std.proofs.Common.{◌≡◌, take}
use Rattle.rpki_verdicts.specs.TreeParts.{worst_end}
use Rattle.rpki_verdicts.proofs.parts.Trees.ended.Given as goal

abbrev pub invariant-loop-part : goal.invariant-loop-part
invariant-loop-part l = l.ended ≡ worst_end (take l.part-index l.self.parts.items)
