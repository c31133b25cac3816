use Rattle.std.proofs.Common.{rules, refl, sym}
use Rattle.std.specs.Prelude.{map, codes}
use Rattle.rpki_der.specs.Place.{remaining}
use Rattle.rpki_parts.specs.NameTexts.{attribute_value_at, attribute_text}
use Rattle.rpki_parts.specs.NameTexts.Reading.{values_in, written_part}
use Rattle.rpki_parts.proofs.NameTexts.{text_written, all_written, attribute_value_shrinks, one_value, no_values}
use Rattle.rpki_parts.proofs.name_text.write_part.Goals as goal

pub loop-id-smaller : goal.loop-id-smaller
loop-id-smaller g c = attribute_value_shrinks (remaining c.loop-id.rest) (c.in-Some.id.now, remaining c.in-Some.value)
    (remaining c.next_attribute.new.cursor) (sym c.in-Some.ensures)

pub loop-id-preserved : goal.loop-id-preserved
loop-id-preserved g c = (
  search rules,
  λ plain.
      let one = one_value attribute_value_at attribute_value_shrinks (remaining c.loop-id.rest)
      (c.in-Some.id.now, remaining c.in-Some.value) (remaining c.next_attribute.new.cursor)
      (sym c.in-Some.ensures) in
      text_written g.W.Write.write_str_gives c.args.f.now (written_part (remaining c.args.part.now)) c.loop-id.f
      c.loop-id.before.now (codes "+") (attribute_text (c.in-Some.id.now, remaining c.in-Some.value))
      (map attribute_text (values_in attribute_value_at (remaining c.next_attribute.new.cursor)))
      c.write_str.new.self c.write_attribute.new.f
      (rw one at (c.loop-id.invariant.1 plain)) (λ p. c.write_str.ensures.writes p (search rules))
      (λ p. c.write_attribute.ensures p (search rules)),
)

pub returns : goal.returns
returns g c = λ plain ok. all_written g.W.Write.write_str_gives c.args.f.now
    (written_part (remaining c.args.part.now)) c.loop-id.f _ (c.loop-id.invariant.1 plain)
    (rw (no_values attribute_value_at attribute_value_shrinks (remaining c.loop-id.rest) (sym c.in_default.ensures))
    refl)
