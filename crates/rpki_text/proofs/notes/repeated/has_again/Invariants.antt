use Rattle.std.proofs.Common.{ℕ, List, length}
use Rattle.rpki_der.specs.Place.{remaining}
use Rattle.rpki_text.proofs.TwiceThere.{AreBefore, IsLeftAfter}
use Rattle.rpki_text.proofs.notes.repeated.has_again.Given as goal

-- the set has the identifiers before the rest, and one of all is there again if one of the rest is
abbrev pub invariant-loop-extension : goal.invariant-loop-extension
invariant-loop-extension l =
    (before : List (List ℕ)) × AreBefore before l.before × IsLeftAfter before (remaining l.elements) (remaining l.rest)

abbrev pub decreases-loop-extension : goal.decreases-loop-extension
decreases-loop-extension l = length (remaining l.rest)
