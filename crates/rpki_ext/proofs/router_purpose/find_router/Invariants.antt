use Rattle.std.proofs.Common.{◌≡◌, length, false}
use Rattle.rpki_der.specs.Folding.{over}
use Rattle.rpki_der.specs.Place.{remaining}
use Rattle.rpki_der.specs.Primitives.Reading.{oid_at}
use Rattle.rpki_ext.specs.RouterPurposes.{or_router}
use Rattle.rpki_ext.proofs.router_purpose.find_router.Given as goal

abbrev pub invariant-loop-rest : goal.invariant-loop-rest
invariant-loop-rest l = over oid_at or_router l.found (remaining l.rest) ≡ over oid_at or_router false (remaining l.identifiers)

abbrev pub decreases-loop-rest : goal.decreases-loop-rest
decreases-loop-rest l = length (remaining l.rest)
