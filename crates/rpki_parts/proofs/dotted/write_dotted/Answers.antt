use Rattle.std.specs.Prelude.{◌&&◌, not, nat_lt}
use Rattle.std.proofs.Common.{rules, ◌≡◌, ◌∷◌, ◌^◌}
use Rattle.std.proofs.lemmas.Bool.{and_parts}
use Rattle.rpki_parts.specs.NameTexts.{are_small, subidentifiers, number_after, ended_with, numbers_text, dotted_text}
use Rattle.rpki_parts.proofs.NameTexts.{piece_written, numbers_split}
use Rattle.rpki_parts.proofs.dotted.write_dotted.Goals as goal

pub loop-octet-preserved : goal.loop-octet-preserved
loop-octet-preserved g c =
    let is : c.loop-octet.rest.now ≡ c.in-Some.octet.now ∷ c.in-Some.behind.now = search rules in
    let number = c.loop-octet.number in
    let octet = c.in-Some.octet.now in
    let behind = c.in-Some.behind.now in
    let more = subidentifiers (number_after number octet) behind in (
      rw c.number_after-number.ensures
          (and_parts (nat_lt number (2 ^ 57)) (are_small (number_after number octet) behind)
          (rw is at c.loop-octet.invariant.0)).1,
      λ plain.
          let so_far = rw (numbers_split c.loop-octet.is_first number octet more) at (rw is at (c.loop-octet.invariant.1 plain)) in
          let written = piece_written g.W.Write.write_str_gives c.args.f.now (dotted_text c.args.id.now)
          c.loop-octet.f (numbers_text c.loop-octet.is_first (ended_with number octet))
          (numbers_text (c.loop-octet.is_first && not (nat_lt octet 128)) more) c.write_ended.new.f so_far
          (c.write_ended.ensures so_far.1.plain (search rules)) in
          rw (c.is_still_first-is_first.ensures, c.number_after-number.ensures) written,
    )
