use Rattle.std.specs.Prelude.{Err}
use Rattle.std.proofs.Common.{◌≡◌, ◌≢◌, [], List, ap, arith, inr, length, map, refl, rules, subst}
use Rattle.std.proofs.lemmas.List.{length-map}
use Rattle.rpki_blocks.specs.Sets.{Block}
use Rattle.rpki_blocks.specs.Unions.{IsUnion}
use Rattle.rpki_c.specs.WantedQuestions.{AreOrdered}
use Rattle.rpki_c.proofs.WantedValues.{no_blocks}
use Rattle.rpki_c.proofs.values.listed_of.Goals as goal

pub returns-in_err-blocks : goal.returns-in_err-blocks
returns-in_err-blocks g c = λ w.
    let e = c.in_err-blocks.field-0.0 in
    let same : c.from_residual.result ≡ Err e = search rules in
    rw same (no_blocks w (map g.T.Ranges.span c.args.ranges.now) e (c.in_err-blocks.ensures w))

pub returns : goal.returns
returns g c = λ w.
    let are = c.in_ok-blocks.ensures w in
    let spans = map g.T.Ranges.span c.args.ranges.now in
    let some : spans ≢ [] = λ e. absurd (grind (
      arith,
      ap length e,
      length-map c.args.ranges.now g.T.Ranges.span,
      c.if-is_empty.ensures,
    )) in
    let union = subst (λ (bs : List Block). IsUnion bs c.in_ok-set.set) are.0 c.in_ok-set.ensures in
    inr (inr (refl, some, subst AreOrdered are.0 are.1, union))
