use Rattle.std.proofs.Common.{refl, inl, inr, rules}
use Rattle.std.proofs.lemmas.Result.{IfOk-weaker}
use Rattle.rpki_requests.specs.RequestMisuses.{request_misuse_text}
use Rattle.rpki_requests.specs.RequestWords.Views.{asked_fields}
use Rattle.rpki_text.specs.CommandLines.Views.{word_octets}
use Rattle.rpki_command.specs.AboutTexts.{topic_of}
use Rattle.rpki_command.specs.Messages.{misuse_message}
use Rattle.rpki_command.specs.Outputs.{only_said}
use Rattle.rpki_command.proofs.WrittenTexts.{appends_none, makes_none}
use Rattle.rpki_command.proofs.requests.answer_words.Goals as goal

pub returns-in_ok-say-in-Err-clause-ended : goal.returns-in_ok-say-in-Err-clause-ended
returns-in_ok-say-in-Err-clause-ended g c =
    let ended = c.silent.ensures in
    let told = c.in_ok-say-in-Err.ensures in
    let misuse = c.in-Err.misuse in
    let message = misuse_message (topic_of (word_octets c.args.words.now)) (request_misuse_text misuse) in (
      only_said message,
      rw ended.outcome (inl (
        c.in-Err.ensures.rejected told.memory,
        refl,
        (message, (misuse, c.in-Err.ensures.told told.memory, refl), refl),
      )),
      rw ended.written (appends_none (g.O.Write.contents c.args.out.now)),
      rw c.topic_of.ensures at told.said,
      makes_none (g.M.FileMaker.made c.args.files.now),
    )
