use Rattle.std.proofs.Common.{◌≡◌, [], length}
use Rattle.rpki_der.specs.Folding.{over, gather}
use Rattle.rpki_der.specs.Place.{remaining}
use Rattle.rpki_der.specs.Skipping.Reading.{captured_at}
use Rattle.rpki_cert.proofs.frame.values_in.Given as goal

abbrev pub invariant-loop-elements : goal.invariant-loop-elements
invariant-loop-elements l = over captured_at gather l.values.items (remaining l.elements) ≡
    over captured_at gather [] (remaining l.fn.elements)

abbrev pub decreases-loop-elements : goal.decreases-loop-elements
decreases-loop-elements l = length (remaining l.elements)
