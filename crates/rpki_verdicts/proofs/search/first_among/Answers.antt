use Rattle.std.specs.Option.{option_map}
use Rattle.std.specs.Prelude.{Option, option_to_list}
use Rattle.std.proofs.Common.{◌∙◌, sym, ap}
use Rattle.rpki_verdicts.proofs.PartByPart.{first_here}
use Rattle.rpki_verdicts.proofs.search.first_among.Goals as goal

pub returns-in-Some : goal.returns-in-Some
returns-in-Some c =
    let first = sym (ap (λ (o : Option _). option_to_list (option_map (λ f. f.now) o)) c.in-Some.is) ∙ c.first_of.ensures in
    first_here c.args.parts.now c.loop-part.part-index c.part-item.result c.in-Some.file.now c.loop-part-test.true
    c.part-item.is c.loop-part.invariant first
