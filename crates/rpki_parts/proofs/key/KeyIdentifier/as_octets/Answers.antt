use Rattle.std.proofs.Common.{rules}
use Rattle.rpki_der.proofs.Octets.{AreOctets-each}
use Rattle.rpki_parts.proofs.key.KeyIdentifier.as_octets.Goals as goal

pub returns-clause-octets : goal.returns-clause-octets
returns-clause-octets c =
    rw (← c.self.view_is)
    (rw (← c.as_slice-octets.ensures) (AreOctets-each c.as_slice-octets.result.now (λ i. search rules)))
