use Rattle.std.proofs.Common.{ap, refl, inl, inr, rules}
use Rattle.std.proofs.lemmas.Result.{IfOk-weaker}
use Rattle.rpki_requests.specs.RequestWords.Views.{asked_fields}
use Rattle.rpki_requests.specs.declared.refusals.Refusal.{Refusal}
use Rattle.rpki_requests.specs.declared.words.Setting.TheVariants.{At}
use Rattle.rpki_requests.proofs.RefusalCases.{value_is}
use Rattle.rpki_command.specs.Messages.{refusal_message}
use Rattle.rpki_command.specs.Outputs.{only_said}
use Rattle.rpki_command.specs.RequestRuns.{IsMomentAsked}
use Rattle.rpki_command.specs.RequestRuns.Views.{input_fields}
use Rattle.rpki_command.proofs.WrittenTexts.{appends_none, makes_none}
use Rattle.rpki_command.proofs.requests.answer_order.Goals as goal

pub returns-in-Err-clause-ended : goal.returns-in-Err-clause-ended
returns-in-Err-clause-ended g c =
    let ended = c.silent.ensures in
    let told = c.in_ok-refuse-in-Err.ensures in
    let asked = asked_fields c.args.order.now in
    let why = c.in-Err.refusal in (
      only_said (refusal_message asked why),
      inl (
        c.in-Err.ensures.1 told.memory,
        ended.outcome,
        ap (λ (w : Refusal). only_said (refusal_message asked w))
            (value_is At why told.memory c.in-Err.ensures.0),
      ),
      rw ended.written (appends_none (g.O.Write.contents c.args.out.now)),
      told.said,
      makes_none (g.M.FileMaker.made c.args.files.now),
    )

pub returns-in-Ok-read_inputs-clause-ended : goal.returns-in-Ok-read_inputs-clause-ended
returns-in-Ok-read_inputs-clause-ended g c =
    let reads = g.S.FileSource.reads c.args.system.now in
    let tells = g.S.MomentSource.tells c.args.system.now in
    let asked = asked_fields c.args.order.now in
    let now_is : IsMomentAsked tells asked.given c.in_ok-now.now = search rules in
    IfOk-weaker c.answer_inputs-ended.result _ _
    (λ e its. (
      its.0,
      inr (inr (record {
        now = c.in_ok-now.now;
        now_is = now_is;
        inputs = input_fields c.in-Ok-read_inputs.objects;
        inputs_are = c.in-Ok-read_inputs.ensures.inputs;
        ends = its.1;
      })),
      its.2,
      its.3,
      its.4,
    ))
    c.answer_inputs-ended.ensures.ended

pub returns-in_ok-tell_unreadable-in-Err-read_inputs-clause-ended : goal.returns-in_ok-tell_unreadable-in-Err-read_inputs-clause-ended
returns-in_ok-tell_unreadable-in-Err-read_inputs-clause-ended g c =
    let ended = c.silent-in-Err-read_inputs.ensures in
    let (said, told, appended) = c.in_ok-tell_unreadable-in-Err-read_inputs.ensures in
    let unread = c.in-Err-read_inputs.ensures.unread told.0 in (
      only_said said,
      inr (inl (c.in-Err-read_inputs.unreadable, said, unread, told, ended.outcome, refl)),
      rw ended.written (appends_none (g.O.Write.contents c.args.out.now)),
      appended,
      makes_none (g.M.FileMaker.made c.args.files.now),
    )
