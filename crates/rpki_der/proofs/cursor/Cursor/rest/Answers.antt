use Rattle.std.proofs.Common.{rules}
use Rattle.rpki_der.proofs.Octets.{AreOctets-take, AreOctets-drop, AreOctets-each}
use Rattle.rpki_der.proofs.cursor.Cursor.rest.Goals as goal

pub returns-clause-octets : goal.returns-clause-octets
returns-clause-octets c =
    AreOctets-take
    _ _ (AreOctets-drop c.self.inside.from c.as_slice-octets.result.now (AreOctets-each _ (λ i. search rules)))
