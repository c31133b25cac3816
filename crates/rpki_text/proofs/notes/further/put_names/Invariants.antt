use Rattle.std.proofs.Common.{◌≡◌, ◌++◌, length, map}
use Rattle.std.specs.Option.{option_copied}
use Rattle.rpki_der.specs.Place.{remaining}
use Rattle.rpki_text.specs.Facts.{fact_view, further_names}
use Rattle.rpki_text.proofs.notes.further.put_names.Given as goal

abbrev pub invariant-loop-uri : goal.invariant-loop-uri
invariant-loop-uri l =
    map fact_view l.facts.items ++ further_names l.kind (option_copied l.kept) (remaining l.rest)
    ≡ map fact_view l.initial.facts.items ++ further_names l.kind (option_copied l.kept) (remaining l.names)

abbrev pub decreases-loop-uri : goal.decreases-loop-uri
decreases-loop-uri l = length (remaining l.rest)
