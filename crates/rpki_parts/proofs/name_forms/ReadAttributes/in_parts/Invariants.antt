use Rattle.std.proofs.Common.{◌≡◌, length, false}
use Rattle.rpki_der.specs.Folding.{over}
use Rattle.rpki_der.specs.Place.{remaining}
use Rattle.rpki_der.specs.Tags.{SET}
use Rattle.rpki_der.specs.Values.Reading.{value_at}
use Rattle.rpki_parts.specs.NameForms.Reading.{seen_in}
use Rattle.rpki_parts.proofs.name_forms.ReadAttributes.in_parts.Given as goal

abbrev pub invariant-loop-rest : goal.invariant-loop-rest
invariant-loop-rest l = over (value_at SET) (seen_in l.strict) l.seen (remaining l.rest) ≡
    over (value_at SET) (seen_in l.fn.strict) (record { name = false; number = false }) (remaining l.parts)

abbrev pub decreases-loop-rest : goal.decreases-loop-rest
decreases-loop-rest l = length (remaining l.rest)
