use Rattle.std.proofs.Common.{subst}
use Rattle.rpki_der.specs.Primitives.{IsOid}
use Rattle.rpki_der.proofs.IdentifierReads.{oid_takes}
use Rattle.rpki_der.proofs.oid.Oid.as_bytes.Goals as goal

pub returns-clause-valid : goal.returns-clause-valid
returns-clause-valid c = subst IsOid c.self.view_is (oid_takes _ c.self.invariant)
