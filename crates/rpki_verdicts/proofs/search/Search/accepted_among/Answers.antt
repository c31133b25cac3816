use Rattle.std.proofs.Common.{map}
use Rattle.rpki_verdicts.specs.Searches.{DeniesFirst, IsAcceptedIn}
use Rattle.rpki_verdicts.specs.ShownPaths.{placed_of}
use Rattle.rpki_verdicts.proofs.PartByPart.{all_gone, all_more, any_here}
use Rattle.rpki_verdicts.proofs.search.Search.accepted_among.Goals as goal

pub returns-in-Some : goal.returns-in-Some
returns-in-Some c =
    let file = c.args.file.now in
    let path = map (λ f. f.now) c.in-Some.path.items in
    let its : IsAcceptedIn (placed_of c.args.self.now.trees.now) file path c.part-item.result.answer = rw c.in-Some.is at
    c.in_ok-path.ensures in
    any_here (λ part. IsAcceptedIn
    (placed_of c.args.self.now.trees.now) file path part.answer) c.args.parts.now c.loop-part.part-index c.part-item.result
    c.loop-part-test.true c.part-item.is its

pub loop-part-preserved : goal.loop-part-preserved
loop-part-preserved c =
    let denies : DeniesFirst c.part-item.result.answer = rw c.in_default.is at c.in_ok-path.ensures in
    all_more (λ part. DeniesFirst part.answer) c.args.parts.now c.loop-part.part-index c.part-item.result
    c.loop-part-test.true c.part-item.is c.loop-part.invariant denies

pub returns : goal.returns
returns c = all_gone (λ part. DeniesFirst part.answer) c.args.parts.now c.loop-part.part-index c.loop-part-test.false c.loop-part.invariant
