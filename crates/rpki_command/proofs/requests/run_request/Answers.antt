use Rattle.std.proofs.Common.{◌∙◌, sym, refl, inl, inr}
use Rattle.std.proofs.lemmas.Bool.{true≢false}
use Rattle.std.proofs.lemmas.Result.{IfOk-weaker}
use Rattle.rpki_text.specs.CommandLines.Views.{word_octets}
use Rattle.rpki_command.specs.AboutTexts.{help_text, topic_of}
use Rattle.rpki_command.specs.Outputs.{only_text}
use Rattle.rpki_command.proofs.WrittenTexts.{appends_none, makes_none}
use Rattle.rpki_command.proofs.requests.run_request.Goals as goal

pub returns-then-asks_help-clause-ended : goal.returns-then-asks_help-clause-ended
returns-then-asks_help-clause-ended g c =
    let wrote = rw (c.as_bytes.ensures.value, c.help.ensures, c.topic_of.ensures) at c.write_all-written.ensures.bytes in (
      only_text (help_text (topic_of (word_octets c.args.words.now))),
      inl (c.asks_help.ensures.0 c.if-asks_help.true, refl, refl),
      wrote,
      appends_none (g.E.Write.contents c.args.err.now),
      makes_none (g.M.FileMaker.made c.args.files.now),
    )

pub returns-clause-ended : goal.returns-clause-ended
returns-clause-ended g c =
    IfOk-weaker c.answer_words.result _ _
    (λ e its. (its.0, inr ((λ asks. true≢false (sym (c.asks_help.ensures.1 asks) ∙ c.if-asks_help.false)), its.1), its.2, its.3, its.4))
    c.answer_words.ensures.ended
