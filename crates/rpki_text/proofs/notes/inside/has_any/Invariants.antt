use Rattle.std.specs.List.{list_any}
use Rattle.std.proofs.Common.{◌≡◌, length}
use Rattle.rpki_der.specs.Place.{remaining}
use Rattle.rpki_der.specs.Values.Reading.{value_at}
use Rattle.rpki_parts.specs.NameTexts.Reading.{values_in}
use Rattle.rpki_text.proofs.notes.inside.has_any.Given as goal

-- one of all passes if one of the rest does
abbrev pub invariant-loop-inside : goal.invariant-loop-inside
invariant-loop-inside g l =
    list_any g.T.Test.passes (values_in (value_at l.identifier) (remaining l.values))
    ≡ list_any g.T.Test.passes (values_in (value_at l.identifier) (remaining l.rest))

abbrev pub decreases-loop-inside : goal.decreases-loop-inside
decreases-loop-inside g l = length (remaining l.rest)
