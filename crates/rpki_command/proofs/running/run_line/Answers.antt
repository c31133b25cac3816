use Rattle.std.proofs.Common.{[], refl}
use Rattle.std.proofs.lemmas.Result.{IfOk-weaker}
use Rattle.rpki_text.specs.CommandLines.Views.{fields_of, word_octets}
use Rattle.rpki_text.specs.MisuseTexts.{misuse_text}
use Rattle.rpki_command.specs.AboutTexts.{about_text, topic_of}
use Rattle.rpki_command.specs.Messages.{misuse_message}
use Rattle.rpki_command.proofs.EndedRuns.{run_about, run_answer}
use Rattle.rpki_command.proofs.WrittenTexts.{appends_none}
use Rattle.rpki_command.proofs.running.run_line.Goals as goal

pub returns-in-Err-clause-ended : goal.returns-in-Err-clause-ended
returns-in-Err-clause-ended g c =
    let known = c.in_ok-say-in-Err.ensures.memory in
    let misuse = c.in-Err.misuse in (
      [],
      misuse_message (topic_of (word_octets c.args.words.now)) (misuse_text misuse),
      (c.in-Err.ensures.rejected known, refl, (misuse, c.in-Err.ensures.told known, refl)),
      appends_none (g.O.Write.contents c.args.out.now),
      rw c.topic_of.ensures at c.in_ok-say-in-Err.ensures.said,
    )

pub returns-in-Some-clause-ended : goal.returns-in-Some-clause-ended
returns-in-Some-clause-ended g c =
    let about = c.in-Some.ensures in
    let ends = run_about (g.S.FileSource.reads c.args.system.now) (g.S.FileSource.lists c.args.system.now)
    (g.S.MomentSource.tells c.args.system.now)
    (word_octets c.args.words.now) (fields_of c.in-Ok.request) c.in-Ok.ensures.command_line about.files in
    let wrote = rw (c.as_bytes.ensures.value, about.text) at c.write_all-written.ensures.bytes in (
      about_text c.in-Ok.request.task (topic_of (word_octets c.args.words.now)),
      [],
      ends,
      rw c.topic_of-2.ensures at wrote,
      appends_none (g.E.Write.contents c.args.err.now),
    )

pub returns-clause-ended : goal.returns-clause-ended
returns-clause-ended g c =
    IfOk-weaker c.answer_named.result _ _
    (λ e its. (
      its.0,
      its.1,
      run_answer (g.S.FileSource.reads c.args.system.now) (g.S.FileSource.lists c.args.system.now)
          (g.S.MomentSource.tells c.args.system.now)
          (word_octets c.args.words.now) (fields_of c.in-Ok.request) c.in-Ok.ensures.command_line
          c.in_default.ensures.files c.in_ok-now.now c.in_ok-now.ensures e.outcome its.0 its.1 its.2,
      its.3,
      its.4,
    ))
    c.answer_named.ensures.answer
