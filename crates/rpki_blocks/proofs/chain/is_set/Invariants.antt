use Rattle.std.proofs.Common.{◌+◌, take}
use Rattle.rpki_blocks.specs.Sets.{IsSet}
use Rattle.rpki_blocks.proofs.chain.is_set.Given as goal

abbrev pub invariant-check : goal.invariant-check
invariant-check g l = IsSet g.B.Bound.greatest (take (l.i + 1) l.blocks)
