use Rattle.std.proofs.Common.{length, map}
use Rattle.rpki_der.specs.Place.{remaining}
use Rattle.rpki_text.specs.Facts.{fact_view}
use Rattle.rpki_text.proofs.Gathered.{IsGathered}
use Rattle.rpki_text.proofs.notes.facts.facts_among.Given as goal

abbrev pub invariant-loop-extension : goal.invariant-loop-extension
invariant-loop-extension l = IsGathered l.tbs.extensions (remaining l.elements) (remaining l.rest) (map fact_view l.facts.items)

abbrev pub decreases-loop-extension : goal.decreases-loop-extension
decreases-loop-extension l = length (remaining l.rest)
