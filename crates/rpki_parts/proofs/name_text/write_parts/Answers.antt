use Rattle.std.proofs.Common.{rules, refl, sym}
use Rattle.std.specs.Prelude.{map, codes}
use Rattle.rpki_der.specs.Place.{remaining}
use Rattle.rpki_der.specs.Tags.{SET}
use Rattle.rpki_der.specs.Values.Reading.{value_at}
use Rattle.rpki_parts.specs.NameTexts.Reading.{values_in, written_part, written_parts}
use Rattle.rpki_parts.proofs.NameForms.{set_shrinks}
use Rattle.rpki_parts.proofs.NameTexts.{text_written, all_written, one_value, no_values}
use Rattle.rpki_parts.proofs.name_text.write_parts.Goals as goal

pub loop-part-smaller : goal.loop-part-smaller
loop-part-smaller g c = set_shrinks (remaining c.loop-part.rest) (remaining c.in-Some.part)
    (remaining c.next_part.new.cursor) (sym c.in-Some.ensures)

pub loop-part-preserved : goal.loop-part-preserved
loop-part-preserved g c = (
  search rules,
  λ plain.
      let one = one_value (value_at SET) set_shrinks (remaining c.loop-part.rest) (remaining c.in-Some.part)
      (remaining c.next_part.new.cursor) (sym c.in-Some.ensures) in
      text_written g.W.Write.write_str_gives c.args.f.now (written_parts (remaining c.args.parts.now)) c.loop-part.f
      c.loop-part.before.now (codes ", ") (written_part (remaining c.in-Some.part))
      (map written_part (values_in (value_at SET) (remaining c.next_part.new.cursor))) c.write_str.new.self
      c.write_part.new.f
      (rw one at (c.loop-part.invariant.1 plain)) (λ p. c.write_str.ensures.writes p (search rules))
      (λ p. c.write_part.ensures p (search rules)),
)

pub returns : goal.returns
returns g c = λ plain ok. all_written g.W.Write.write_str_gives c.args.f.now
    (written_parts (remaining c.args.parts.now)) c.loop-part.f _ (c.loop-part.invariant.1 plain)
    (rw (no_values (value_at SET) set_shrinks (remaining c.loop-part.rest) (sym c.in_default.ensures)) refl)
