use Rattle.std.proofs.Common.{string_bytes, subst, sym, ap}
use Rattle.rpki_text.specs.CommandLines.Views.{fields_of}
use Rattle.rpki_command.specs.Runs.{IsWholeAnswer}
use Rattle.rpki_answers.specs.declared.outcomes.Outcome.{Outcome}
use Rattle.rpki_command.proofs.running.answered.Goals as goal

pub returns : goal.returns
returns g c =
    let reads = g.F.FileSource.reads c.args.files.now in
    let whole = c.in_ok-answer.answer in
    let (said, answer, appended) = c.in_ok-answer.ensures in
    let its = c.quieted.ensures in (
      said,
      record {
        told = string_bytes whole.text;
        whole = subst (λ (o : Outcome). IsWholeAnswer reads (fields_of c.args.request.now) c.args.now o
            (string_bytes whole.text) said) (sym its.outcome) answer;
        quiet_is = its.quiet;
        told_is = λ loud. ap string_bytes (its.told loud);
      },
      appended,
    )
