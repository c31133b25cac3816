use Rattle.rpki_document.proofs.Built.{ended_some}
use Rattle.std.specs.Prelude.{codes}
use Rattle.std.proofs.Common.{refl}
use Rattle.rpki_answers.specs.declared.verdicts.Finding.TheVariants.{NotALocator, NotAList}
use Rattle.rpki_answers.specs.Verdicts.{IsOpening, unjudged_nodes}
use Rattle.rpki_answers.proofs.verdict_document.add_opening.Goals as goal

pub returns-in-NotALocator : goal.returns-in-NotALocator
returns-in-NotALocator c =
    let f = c.in-NotALocator.fault in
    rw c.in-NotALocator.is (ended_some c.add_unjudged.result (IsOpening c.args.question.now (NotALocator f))
    (unjudged_nodes f.step.now f.rule.says.now f.name.now f.rule.section.now)
    c.args.parts.now.items c.add_unjudged.new.parts.items refl c.add_unjudged.ensures)

pub returns-in-NotAList : goal.returns-in-NotAList
returns-in-NotAList c =
    rw c.in-NotAList.is (ended_some c.add_unjudged-in-NotAList.result (IsOpening c.args.question.now NotAList)
    (unjudged_nodes (codes "crls") (codes "a file given as a CRL isn't one") (codes "NotACrl") (codes "RFC 6487 5, own rules"))
    c.args.parts.now.items c.add_unjudged-in-NotAList.new.parts.items refl c.add_unjudged-in-NotAList.ensures)
