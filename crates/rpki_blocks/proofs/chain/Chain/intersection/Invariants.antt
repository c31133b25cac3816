use Rattle.std.proofs.Common.{◌+◌, ◌-◌, length, drop}
use Rattle.rpki_blocks.proofs.ChainWalks.{IsWalk}
use Rattle.rpki_blocks.proofs.chain.Chain.intersection.Given as goal

abbrev pub invariant-walk : goal.invariant-walk
invariant-walk g l =
    IsWalk l.ours l.theirs l.both.items (drop l.i l.ours) (drop l.j l.theirs)

abbrev pub decreases-walk : goal.decreases-walk
decreases-walk g l = (length l.ours - l.i) + (length l.theirs - l.j)
