use Rattle.std.proofs.Common.{rules}
use Rattle.rpki_der.proofs.Octets.{AreOctets-each}
use Rattle.rpki_cert.proofs.rearranging.known.Goals as goal

pub returns : goal.returns
returns c = AreOctets-each _ (λ i. search rules)
