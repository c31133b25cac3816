use Rattle.std.proofs.Common.{refl, subst}
use Rattle.rpki_verdicts.specs.PathFiles.{QuestionFields}
use Rattle.rpki_answers.specs.RejectionDetails.{AreDetails}
use Rattle.rpki_answers.specs.declared.details.Details.{Details}
use Rattle.rpki_answers.proofs.details.details_of.Goals as goal

pub returns : goal.returns
returns c =
    let d : Details = record {
      cause = c.cause_of.result;
      moment = c.question.inside.at;
      member = c.certificate_at.result;
      above = c.certificate_at-2.result;
      sort = c.sort_at.result;
      is_turned = c.is_turned.result;
    } in
    subst (λ (q : QuestionFields). AreDetails q c.args.fault.now d) c.question.view_is
    (record {
      cause_is = c.cause_of.ensures;
      moment_is = refl;
      member_is = c.certificate_at.ensures;
      above_is = rw c.saturating_sub.ensures at c.certificate_at-2.ensures;
      sort_is = c.sort_at.ensures;
      order_is = c.is_turned.ensures;
    })
