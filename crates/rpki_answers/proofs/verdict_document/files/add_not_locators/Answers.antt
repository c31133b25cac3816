use Rattle.std.proofs.Common.{List, subst}
use Rattle.rpki_document.specs.Building.{Adds}
use Rattle.rpki_document.specs.Documents.{Node}
use Rattle.rpki_verdicts.specs.GivenLocators.{LocatorFields}
use Rattle.rpki_answers.specs.Verdicts.{not_a_locator}
use Rattle.rpki_answers.proofs.AddedNodes.{told_more}
use Rattle.rpki_answers.proofs.PartsOfEach.{parts_all}
use Rattle.rpki_answers.proofs.verdict_document.files.add_not_locators.Goals as goal

abbrev of : LocatorFields → List Node
of l = not_a_locator l.file.name l.read

pub loop-locator-preserved : goal.loop-locator-preserved
loop-locator-preserved c =
    let l = c.loop-locator in
    told_more of c.args.locators.now l.locator-index c.locator-item.result c.args.parts.now.items l.parts.items
    c.add_not_a_locator.new.parts.items c.loop-locator-test.true c.locator-item.is l.invariant c.in_ok-add_not_a_locator.ensures

pub returns : goal.returns
returns c =
    let l = c.loop-locator in
    subst (λ (nodes : List Node). Adds nodes c.args.parts.now.items l.parts.items)
    (parts_all of c.args.locators.now l.locator-index c.loop-locator-test.false) l.invariant
