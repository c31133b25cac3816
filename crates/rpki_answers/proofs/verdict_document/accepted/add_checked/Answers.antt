use Rattle.rpki_document.proofs.Built.{then_ended}
use Rattle.std.specs.Prelude.{OnOk}
use Rattle.std.proofs.Common.{subst}
use Rattle.rpki_document.specs.Building.{Adds}
use Rattle.rpki_verdicts.specs.PathFiles.{QuestionFields}
use Rattle.rpki_answers.specs.Verdicts.{checked_nodes}
use Rattle.rpki_answers.proofs.verdict_document.accepted.add_checked.Goals as goal

pub returns : goal.returns
returns c =
    let last = c.add_told-2.result in
    subst (λ (f : QuestionFields). OnOk last (Adds (checked_nodes f) c.args.parts.now.items c.add_told-2.new.parts.items))
    c.question.view_is
    (then_ended last _ _ _ _ _ c.in_ok-add_told.ensures (rw c.revocation_leaf-leaf.ensures at c.add_told-2.ensures))
