use Rattle.std.specs.List.{count_by}
use Rattle.std.proofs.Common.{◌≡◌, ◌+◌, ◌≤◌, length}
use Rattle.rpki_der.specs.Place.{remaining}
use Rattle.rpki_der.specs.Tags.{SEQUENCE}
use Rattle.rpki_der.specs.Values.Reading.{value_at}
use Rattle.rpki_parts.specs.NameTexts.Reading.{values_in}
use Rattle.rpki_text.specs.Notes.{has_method}
use Rattle.rpki_text.proofs.notes.access.are_at_least.Given as goal

-- those of the rest, and those that were found, are all
abbrev pub invariant-loop-left : goal.invariant-loop-left
invariant-loop-left l = record {
  counted : count_by (has_method l.method) (values_in (value_at SEQUENCE) (remaining l.descriptions)) + l.left
      ≡ l.times + count_by (has_method l.method) (values_in (value_at SEQUENCE) (remaining l.rest));
  fewer : l.left ≤ l.times;
}

abbrev pub decreases-loop-left : goal.decreases-loop-left
decreases-loop-left l = length (remaining l.rest)
