use Rattle.rpki_c.proofs.Cutting.{AreCutSoFar}
use Rattle.rpki_c.proofs.strings.cut.Given as goal

abbrev pub invariant-loop-length : goal.invariant-loop-length
invariant-loop-length l = AreCutSoFar l.octets l.lengths l.length-index l.strings.items l.rest
