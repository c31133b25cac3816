use Rattle.rpki_document.proofs.Built.{none_added}
use Rattle.std.proofs.Common.{[], refl}
use Rattle.rpki_answers.specs.VerdictTexts.{SaysOfEach}
use Rattle.rpki_answers.proofs.AddedNodes.{added_all, added_more}
use Rattle.rpki_answers.specs.Verdicts.{IsAbout}
use Rattle.rpki_answers.proofs.verdict_document.files.add_of_each.Goals as goal

pub loop-file-init : goal.loop-file-init
loop-file-init c = none_added (SaysOfEach (IsAbout c.args.about) []) c.args.parts.now.items refl

pub loop-file-preserved : goal.loop-file-preserved
loop-file-preserved c =
    let l = c.loop-file in
    added_more (IsAbout c.args.about) c.args.files.now l.file-index c.file-item.result c.args.parts.now.items l.parts.items
    c.add_about.new.parts.items c.loop-file-test.true c.file-item.is l.invariant c.in_ok-add_about.ensures

pub returns : goal.returns
returns c =
    let l = c.loop-file in
    added_all (IsAbout c.args.about) c.args.files.now l.file-index c.args.parts.now.items l.parts.items c.loop-file-test.false l.invariant
