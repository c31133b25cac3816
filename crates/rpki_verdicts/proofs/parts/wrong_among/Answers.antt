use Rattle.std.specs.Option.{option_copied}
use Rattle.std.proofs.Common.{◌∙◌, sym, ap}
use Rattle.rpki_verdicts.proofs.PartByPart.{none_anywhere, none_there, some_there}
use Rattle.rpki_verdicts.proofs.parts.wrong_among.Goals as goal

pub returns-in-Some : goal.returns-in-Some
returns-in-Some c =
    let found = sym c.wrong_at.ensures ∙ ap option_copied c.in-Some.is in
    sym (some_there c.args.place c.args.parts.now c.loop-part.part-index c.part-item.result c.in-Some.wrong.now
    c.loop-part-test.true c.part-item.is c.loop-part.invariant found)

pub loop-part-preserved : goal.loop-part-preserved
loop-part-preserved c =
    let none = sym c.wrong_at.ensures ∙ ap option_copied c.in_default.is in
    none_there c.args.place c.args.parts.now c.loop-part.part-index c.part-item.result c.loop-part-test.true
    c.part-item.is c.loop-part.invariant none

pub returns : goal.returns
returns c = sym (none_anywhere c.args.place c.args.parts.now c.loop-part.part-index c.loop-part-test.false c.loop-part.invariant)
