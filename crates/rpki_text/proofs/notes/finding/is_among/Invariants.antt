use Rattle.std.proofs.Common.{length}
use Rattle.rpki_der.specs.Place.{remaining}
use Rattle.rpki_text.specs.FaultSearch.{HasFault, sought_names}
use Rattle.rpki_text.proofs.Walks.{IsLookedFor}
use Rattle.rpki_text.proofs.notes.finding.is_among.Given as goal

abbrev pub invariant-loop-extension : goal.invariant-loop-extension
invariant-loop-extension l = IsLookedFor (sought_names l.kinds) (HasFault l.fault l.written) (remaining l.elements) (remaining l.rest)

abbrev pub decreases-loop-extension : goal.decreases-loop-extension
decreases-loop-extension l = length (remaining l.rest)
