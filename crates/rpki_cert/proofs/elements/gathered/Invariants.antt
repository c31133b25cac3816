use Rattle.std.proofs.Common.{◌+◌}
use Rattle.rpki_cert.proofs.SequencesMade.{AreAddedSoFar}
use Rattle.rpki_cert.proofs.elements.gathered.Given as goal

abbrev pub invariant-loop-extra : goal.invariant-loop-extra
invariant-loop-extra l = AreAddedSoFar (l.count + 1) l.places.items l.extras l.extra-index
