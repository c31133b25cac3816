use Rattle.std.proofs.Common.{refl, inl, inr, ◌∙◌}
use Rattle.std.proofs.lemmas.Result.{IfOk-weaker}
use Rattle.rpki_requests.specs.RequestWords.Views.{asked_fields}
use Rattle.rpki_command.specs.Messages.{refusal_message}
use Rattle.rpki_command.specs.Outputs.{only_said}
use Rattle.rpki_command.proofs.WrittenTexts.{appends_none, makes_none}
use Rattle.rpki_command.proofs.requests.answer_inputs.Goals as goal

pub returns-in_ok-refuse-in-Err-clause-ended : goal.returns-in_ok-refuse-in-Err-clause-ended
returns-in_ok-refuse-in-Err-clause-ended g c =
    let ended = c.silent.ensures in
    let told = c.in_ok-refuse-in-Err.ensures in
    let why = c.in-Err.refusal in (
      only_said (refusal_message (asked_fields c.args.order.now) why),
      inr (
        why,
        record { nothing = c.in-Err.ensures.refused told.memory; path_is = c.in-Err.ensures.told; so = c.in-Err.ensures.so },
        ended.outcome ∙ c.refusal_outcome-outcome.ensures,
        refl,
      ),
      rw ended.written (appends_none (g.O.Write.contents c.args.out.now)),
      told.said,
      makes_none (g.M.FileMaker.made c.args.files.now),
    )
