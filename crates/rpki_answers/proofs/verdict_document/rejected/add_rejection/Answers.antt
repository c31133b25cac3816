use Rattle.rpki_document.proofs.Built.{then_added}
use Rattle.std.proofs.lemmas.Result.{IfOk-weaker}
use Rattle.std.specs.Option.{option_map}
use Rattle.std.specs.Prelude.{codes}
use Rattle.std.proofs.Common.{◌≡◌, [], ◌∷◌, ◌++◌, refl, subst}
use Rattle.rpki_document.specs.Documents.{document_of, inside}
use Rattle.rpki_verdicts.specs.PathFiles.{QuestionFields}
use Rattle.rpki_answers.specs.Verdicts.{place_spans, reason_spans, rejected_head, rejected_nodes}
use Rattle.rpki_answers.specs.VerdictTexts.{file_name_at}
use Rattle.rpki_answers.proofs.verdict_document.rejected.add_rejection.Goals as goal

pub returns : goal.returns
returns c =
    let q = c.args.question.now in
    let fault = c.args.fault.now in
    let details = c.details_of-details.result in
    let name = file_name_at q.members fault.index in
    let named : option_map (λ n. n.now) c.name_at-name.result ≡ name =
    subst (λ (f : QuestionFields). option_map (λ n. n.now) c.name_at-name.result ≡ file_name_at f.members fault.index)
    c.question.view_is c.name_at-name.ensures in
    IfOk-weaker c.add_inside.result _ _ (λ _ last. (
      rejected_head (place_spans fault.index name ++ reason_spans fault.rule.says.now fault.name.now fault.rule.section.now)
          ∷ inside (codes "rejected") (document_of (rejected_nodes fault name details)) ∷ [],
      record { details = details; details_are = c.details_of-details.ensures; nodes_are = refl },
      then_added _ _ _ _ _ (rw named at c.in_ok-add_rejected_head.ensures)
          (rw (c.in_ok-add_why.ensures, c.new-why.ensures.items, named) at last),
    )) c.add_inside.ensures
