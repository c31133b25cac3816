use Rattle.std.proofs.Common.{◌+◌, ◌-◌, ◌≤◌, length, drop}
use Rattle.rpki_blocks.proofs.ChainWalks.{IsDecided}
use Rattle.rpki_blocks.proofs.chain.Chain.is_encompassed.Given as goal

abbrev pub invariant-walk : goal.invariant-walk
invariant-walk g l =
    record {
      in_range : l.j ≤ length l.theirs;
      decided : IsDecided g.B.Bound.greatest l.ours l.theirs
          (drop l.i l.ours) (drop l.j l.theirs);
    }

abbrev pub decreases-walk : goal.decreases-walk
decreases-walk g l = (length l.ours - l.i) + (length l.theirs - l.j)
