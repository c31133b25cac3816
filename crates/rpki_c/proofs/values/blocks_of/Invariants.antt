use Rattle.std.proofs.Common.{◌≡◌, map, take}
use Rattle.rpki_c.specs.WantedQuestions.{AreOrdered}
use Rattle.rpki_c.proofs.values.blocks_of.Given as goal

abbrev pub invariant-loop-range : goal.invariant-loop-range
invariant-loop-range g l = record {
  blocks_are : l.blocks ≡ map g.T.Ranges.span (take l.range-index l.ranges);
  ordered : AreOrdered (map g.T.Ranges.span (take l.range-index l.ranges));
}
