use Rattle.std.proofs.Common.{length}
use Rattle.rpki_verdicts.proofs.parts.Trees.+order_octets.Given as goal

abbrev pub decreases-order_octets : goal.decreases-order_octets
decreases-order_octets l = length l.one.now
