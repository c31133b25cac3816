use Rattle.rpki_document.proofs.Built.{then_ended}
use Rattle.std.specs.Prelude.{OnOk}
use Rattle.std.proofs.Common.{subst}
use Rattle.rpki_document.specs.Building.{Adds}
use Rattle.rpki_verdicts.specs.PathFiles.{QuestionFields}
use Rattle.rpki_answers.specs.Verdicts.{asked_nodes}
use Rattle.rpki_answers.proofs.verdict_document.add_asked.Goals as goal

pub returns : goal.returns
returns c =
    let last = c.add_unsaid.result in
    subst (λ (f : QuestionFields). OnOk last (Adds (asked_nodes f) c.args.parts.now.items c.add_unsaid.new.parts.items))
    c.question.view_is
    (then_ended last _ _ _ _ _ (rw (c.in_ok-add_path.ensures, c.new-path.ensures.items) at c.in_ok-add_each.ensures)
    (rw (c.in_ok-pieces.ensures.items, c.has_locators.ensures, c.has_lists.ensures) at c.add_unsaid.ensures))
