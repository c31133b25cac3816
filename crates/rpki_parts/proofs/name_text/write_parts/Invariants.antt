use Rattle.std.proofs.Common.{length}
use denote.Text.{Utf8}
use denote.Shadow.{shadow}
use Rattle.std.specs.Prelude.{map, codes}
use Rattle.std.specs.Fmt.{IsPlainFormatter}
use Rattle.rpki_der.specs.Place.{remaining}
use Rattle.rpki_der.specs.Tags.{SET}
use Rattle.rpki_der.specs.Values.Reading.{value_at}
use Rattle.rpki_parts.specs.NameTexts.{separated}
use Rattle.rpki_parts.specs.NameTexts.Reading.{values_in, written_part, written_parts}
use Rattle.rpki_parts.proofs.NameTexts.{IsPartWritten}
use Rattle.rpki_parts.proofs.name_text.write_parts.Given as goal

abbrev pub invariant-loop-part : goal.invariant-loop-part
invariant-loop-part g l =
    shadow (Utf8 l.before)
    × (IsPlainFormatter l.initial.f →
    IsPartWritten g.W.Write.write_str_gives l.initial.f (written_parts (remaining l.parts)) l.f
    (separated l.before (codes ", ") (map written_part (values_in (value_at SET) (remaining l.rest)))))

abbrev pub decreases-loop-part : goal.decreases-loop-part
decreases-loop-part g l = length (remaining l.rest)
