use Rattle.std.specs.Prelude.{is_some}
use Rattle.std.proofs.Common.{◌≡◌, length}
use Rattle.rpki_der.specs.Place.{remaining}
use Rattle.rpki_der.specs.Sequences.Reading.{sequence_of}
use Rattle.rpki_der.specs.Skipping.{levels}
use Rattle.rpki_parts.specs.Names.{relative_distinguished_name_format}
use Rattle.rpki_parts.proofs.name.check_parts.Given as goal

abbrev pub invariant-loop-elements : goal.invariant-loop-elements
invariant-loop-elements l =
    is_some (sequence_of (relative_distinguished_name_format levels).read (remaining l.elements)) ≡
    is_some (sequence_of (relative_distinguished_name_format levels).read (remaining l.initial.elements))

abbrev pub decreases-loop-elements : goal.decreases-loop-elements
decreases-loop-elements l = length (remaining l.elements)
