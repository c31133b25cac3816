use Rattle.rpki_document.proofs.Built.{ended_with}
use Rattle.std.specs.Prelude.{OnOk}
use Rattle.std.proofs.Common.{append_assoc, subst}
use Rattle.rpki_document.specs.Building.{Adds}
use Rattle.rpki_verdicts.specs.PathFiles.{QuestionFields}
use Rattle.rpki_answers.specs.Verdicts.{unchecked_nodes}
use Rattle.rpki_answers.proofs.verdict_document.accepted.add_all_unchecked.Goals as goal

pub returns : goal.returns
returns c =
    let last = c.add_unchecked.result in
    subst (λ (f : QuestionFields). OnOk last (Adds (unchecked_nodes f) c.args.parts.now.items c.add_unchecked.new.parts.items))
    c.question.view_is
    (ended_with last _ _ _ c.add_unchecked.ensures
    (rw (c.in_ok-add_unchecked_names.ensures, c.in_ok-add_unchecked_anchor.ensures) (simp append_assoc)))
