use Rattle.std.proofs.Common.{◌≡◌, ◌++◌, drop}
use Rattle.rpki_cert.specs.Rearranging.Steps.{joined}
use Rattle.rpki_cert.proofs.elements.sequence_octets.Given as goal

abbrev pub invariant-loop-i : goal.invariant-loop-i
invariant-loop-i l = l.elements.items ++ joined (drop l.i l.order) (drop l.i l.places) l.old ≡ joined l.order l.places l.old
