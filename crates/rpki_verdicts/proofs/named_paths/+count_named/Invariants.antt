use Rattle.std.proofs.Common.{length}
use Rattle.rpki_verdicts.proofs.named_paths.+count_named.Given as goal

abbrev pub decreases-count_named : goal.decreases-count_named
decreases-count_named l = length l.above.now
