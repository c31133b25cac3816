use Rattle.std.specs.Prelude.{None}
use Rattle.std.proofs.Common.{rules, ◌≡◌, Err, refl}
use Rattle.rpki_text.specs.Misuses.{IsWrongFirst}
use Rattle.rpki_text.specs.CommandLines.{with_part}
use Rattle.rpki_text.specs.CommandLines.Views.{fields_of}
use Rattle.rpki_text.proofs.CommandParts.{line_grammar, line_clear}
use Rattle.rpki_text.proofs.WordByWord.{value_added, word_added, option_awaits, word_wrong, option_wrong}
use Rattle.rpki_text.proofs.WrongWords.{value_wrong}
use Rattle.rpki_text.proofs.command_line.words.add_words.Goals as goal
use Rattle.rpki_text.proofs.command_line.words.add_words.Goals.{in-Some+in_ok-add_set}
use Rattle.rpki_text.proofs.command_line.words.add_words.Goals.{in_default+in-Some-setting_of}
use Rattle.rpki_text.proofs.command_line.words.add_words.Goals.{in_default+in_default-setting_of+in_ok-add_word}

pub returns-in_err-add_set-clause-told : goal.returns-in_err-add_set-clause-told
returns-in_err-add_set-clause-told c =
    let is : c.from_residual.result ≡ Err c.in_err-add_set.field-0.0 = search rules in
    let so_far = rw c.in-Some.is at c.loop-word.invariant in
    rw is (λ not_memory. value_wrong c.args.words.now c.loop-word.word-index c.word-item.result c.loop-word-test.true
    c.word-item.is _ _ c.as_slice-word.result.now c.as_slice-word.ensures.value _ c.in-Some.setting so_far
    (c.in_err-add_set.ensures.told not_memory))

pub returns-in_err-add_word-clause-told : goal.returns-in_err-add_word-clause-told
returns-in_err-add_word-clause-told c =
    let is : c.from_residual-in_err-add_word.result ≡ Err c.in_err-add_word.field-0.0 = search rules in
    let none : c.loop-word.awaiting ≡ None = search rules in
    let so_far = rw none at c.loop-word.invariant in
    rw is (λ not_memory. word_wrong line_grammar with_part line_clear c.args.words.now c.loop-word.word-index
    c.word-item.result c.loop-word-test.true c.word-item.is _ _ c.as_slice-word.result.now
    c.as_slice-word.ensures.value so_far IsWrongFirst _ (c.in_err-add_word.ensures.told not_memory))

pub loop-word-preserved : goal.loop-word-preserved
loop-word-preserved c =
    elim c.match-awaiting.branch [
      | in-Some+in_ok-add_set w ↦
          rw (w.request-is, w.awaiting-is)
          (value_added line_grammar with_part line_clear c.args.words.now c.loop-word.word-index
          c.word-item.result c.loop-word-test.true c.word-item.is (fields_of c.args.request.now)
          (fields_of c.loop-word.request) c.as_slice-word.result.now c.as_slice-word.ensures.value
          w.in-Some.setting (rw w.in-Some.is at c.loop-word.invariant) _ w.in_ok-add_set.ensures.added)
      | in_default+in-Some-setting_of w ↦
          rw (w.request-is, w.awaiting-is)
          (option_awaits line_grammar with_part line_clear c.args.words.now c.loop-word.word-index
          c.word-item.result c.loop-word-test.true c.word-item.is (fields_of c.args.request.now)
          (fields_of c.loop-word.request) c.as_slice-word.result.now c.as_slice-word.ensures.value
          (rw w.in_default.is at c.loop-word.invariant) w.in-Some-setting_of.setting
          w.in-Some-setting_of.ensures.named)
      | in_default+in_default-setting_of+in_ok-add_word w ↦
          rw (w.request-is, w.awaiting-is, w.in_default.is)
          (word_added line_grammar with_part line_clear c.args.words.now c.loop-word.word-index
          c.word-item.result c.loop-word-test.true c.word-item.is (fields_of c.args.request.now)
          (fields_of c.loop-word.request) c.as_slice-word.result.now c.as_slice-word.ensures.value
          (rw w.in_default.is at c.loop-word.invariant) _ w.in_ok-add_word.ensures.added)
    ]

pub returns-in-Some-awaiting-clause-told : goal.returns-in-Some-awaiting-clause-told
returns-in-Some-awaiting-clause-told c = λ not_memory.
    option_wrong line_grammar with_part line_clear c.args.words.now c.loop-word.word-index
    _ _ c.in-Some-awaiting.setting (rw c.in-Some-awaiting.is at c.loop-word.invariant) c.loop-word-test.false
    IsWrongFirst _ refl
