use Rattle.std.proofs.Common.{◌≡◌, length}
use Rattle.rpki_der.specs.Folding.{over}
use Rattle.rpki_der.specs.Place.{remaining}
use Rattle.rpki_der.specs.Skipping.{levels}
use Rattle.rpki_parts.specs.Names.{attribute_format}
use Rattle.rpki_parts.specs.NameForms.Reading.{seen_with}
use Rattle.rpki_parts.proofs.name_forms.ReadAttributes.with_part.Given as goal

abbrev pub invariant-loop-rest : goal.invariant-loop-rest
invariant-loop-rest l = over (attribute_format levels).read (seen_with l.strict) l.seen (remaining l.rest) ≡
    over (attribute_format levels).read (seen_with l.fn.strict) l.fn.self (remaining l.part)

abbrev pub decreases-loop-rest : goal.decreases-loop-rest
decreases-loop-rest l = length (remaining l.rest)
