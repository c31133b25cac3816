use Rattle.std.proofs.Common.{◌≡◌, length}
use Rattle.rpki_der.specs.Place.{remaining}
use Rattle.rpki_crl.specs.RevokedEntries.{entries_pass}
use Rattle.rpki_crl.proofs.revoked.check.Given as goal

abbrev pub invariant-loop-rest : goal.invariant-loop-rest
invariant-loop-rest l = entries_pass (remaining l.rest) ≡ entries_pass (remaining l.cursor)

abbrev pub decreases-loop-rest : goal.decreases-loop-rest
decreases-loop-rest l = length (remaining l.rest)
