use Rattle.std.proofs.Common.{length}
use denote.Text.{Utf8}
use denote.Shadow.{shadow}
use Rattle.std.specs.Prelude.{map, codes}
use Rattle.std.specs.Fmt.{IsPlainFormatter}
use Rattle.rpki_der.specs.Place.{remaining}
use Rattle.rpki_parts.specs.NameTexts.{attribute_value_at, attribute_text, separated}
use Rattle.rpki_parts.specs.NameTexts.Reading.{values_in, written_part}
use Rattle.rpki_parts.proofs.NameTexts.{IsPartWritten}
use Rattle.rpki_parts.proofs.name_text.write_part.Given as goal

abbrev pub invariant-loop-id : goal.invariant-loop-id
invariant-loop-id g l =
    shadow (Utf8 l.before)
    × (IsPlainFormatter l.initial.f →
    IsPartWritten g.W.Write.write_str_gives l.initial.f (written_part (remaining l.part)) l.f
    (separated l.before (codes "+") (map attribute_text (values_in attribute_value_at (remaining l.rest)))))

abbrev pub decreases-loop-id : goal.decreases-loop-id
decreases-loop-id g l = length (remaining l.rest)
