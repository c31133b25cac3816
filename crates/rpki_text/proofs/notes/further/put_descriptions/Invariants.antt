use Rattle.std.proofs.Common.{◌≡◌, ◌++◌, length, map}
use Rattle.rpki_der.specs.Place.{remaining}
use Rattle.rpki_text.specs.Facts.{descriptions_facts, fact_view}
use Rattle.rpki_text.proofs.notes.further.put_descriptions.Given as goal

abbrev pub invariant-loop-description : goal.invariant-loop-description
invariant-loop-description l =
    map fact_view l.facts.items ++ descriptions_facts l.tbs.extensions.access (remaining l.rest)
    ≡ map fact_view l.initial.facts.items ++ descriptions_facts l.tbs.extensions.access (remaining l.descriptions)

abbrev pub decreases-loop-description : goal.decreases-loop-description
decreases-loop-description l = length (remaining l.rest)
