use Rattle.std.specs.Prelude.{None}
use Rattle.std.proofs.Common.{rules, ◌≡◌, Err, refl}
use Rattle.rpki_text.proofs.WordByWord.{value_added, word_added, word_rejected, option_awaits, value_awaited}
use Rattle.rpki_text.proofs.WordByWord.{word_wrong, option_wrong}
use Rattle.rpki_requests.specs.RequestMisuses.{IsWrongRequestStart}
use Rattle.rpki_requests.specs.RequestWords.{option, with_request_part}
use Rattle.rpki_requests.specs.RequestWords.Views.{asked_fields}
use Rattle.rpki_requests.proofs.RequestParts.{request_grammar, request_clear}
use Rattle.rpki_requests.proofs.words.add_words.Goals as goal
use Rattle.rpki_requests.proofs.words.add_words.Goals.{in-Some+in_ok-add_given, in_default+in-Some-setting_of}
use Rattle.rpki_requests.proofs.words.add_words.Goals.{in_default+in_default-setting_of+in_ok-add_word}

pub returns-in_err-add_word-clause-unknown : goal.returns-in_err-add_word-clause-unknown
returns-in_err-add_word-clause-unknown c =
    let is : c.from_residual-in_err-add_word.result ≡ Err c.in_err-add_word.field-0.0 = search rules in
    let none : c.loop-word.awaiting ≡ None = search rules in
    let so_far = rw none at c.loop-word.invariant in
    rw is (λ not_memory. word_rejected request_grammar with_request_part request_clear c.args.words.now
    c.loop-word.word-index c.word-item.result c.loop-word-test.true c.word-item.is
    _ _ c.as_slice-word.result.now c.as_slice-word.ensures.value so_far
    (c.in_err-add_word.ensures.unknown not_memory))

pub returns-in_err-add_word-clause-told : goal.returns-in_err-add_word-clause-told
returns-in_err-add_word-clause-told c =
    let is : c.from_residual-in_err-add_word.result ≡ Err c.in_err-add_word.field-0.0 = search rules in
    let none : c.loop-word.awaiting ≡ None = search rules in
    let so_far = rw none at c.loop-word.invariant in
    rw is (λ not_memory. word_wrong request_grammar with_request_part request_clear c.args.words.now
    c.loop-word.word-index
    c.word-item.result c.loop-word-test.true c.word-item.is _ _ c.as_slice-word.result.now
    c.as_slice-word.ensures.value so_far IsWrongRequestStart _ (c.in_err-add_word.ensures.told not_memory))

pub loop-word-preserved : goal.loop-word-preserved
loop-word-preserved c =
    elim c.match-awaiting.branch [
      | in-Some+in_ok-add_given w ↦
          rw (w.asked-is, w.awaiting-is)
          (value_added request_grammar with_request_part request_clear c.args.words.now c.loop-word.word-index
          c.word-item.result c.loop-word-test.true c.word-item.is (asked_fields c.args.asked.now)
          (asked_fields c.loop-word.asked) c.as_slice-word.result.now c.as_slice-word.ensures.value
          w.in-Some.setting (rw w.in-Some.is at c.loop-word.invariant)
          _ (
            option (record { setting = w.in-Some.setting; value = c.as_slice-word.result.now }),
            refl,
            w.in_ok-add_given.ensures.added,
          ))
      | in_default+in-Some-setting_of w ↦
          rw (w.asked-is, w.awaiting-is)
          (option_awaits request_grammar with_request_part request_clear c.args.words.now c.loop-word.word-index
          c.word-item.result c.loop-word-test.true c.word-item.is (asked_fields c.args.asked.now)
          (asked_fields c.loop-word.asked) c.as_slice-word.result.now c.as_slice-word.ensures.value
          (rw w.in_default.is at c.loop-word.invariant) w.in-Some-setting_of.setting
          w.in-Some-setting_of.ensures.named)
      | in_default+in_default-setting_of+in_ok-add_word w ↦
          rw (w.asked-is, w.awaiting-is, w.in_default.is)
          (word_added request_grammar with_request_part request_clear c.args.words.now c.loop-word.word-index
          c.word-item.result c.loop-word-test.true c.word-item.is (asked_fields c.args.asked.now)
          (asked_fields c.loop-word.asked) c.as_slice-word.result.now c.as_slice-word.ensures.value
          (rw w.in_default.is at c.loop-word.invariant) _ w.in_ok-add_word.ensures.added)
    ]

pub returns-in-Some-awaiting-clause-told : goal.returns-in-Some-awaiting-clause-told
returns-in-Some-awaiting-clause-told c = λ not_memory.
    option_wrong request_grammar with_request_part request_clear c.args.words.now c.loop-word.word-index
    _ _ c.in-Some-awaiting.setting (rw c.in-Some-awaiting.is at c.loop-word.invariant) c.loop-word-test.false
    IsWrongRequestStart _ refl

pub returns-in-Some-awaiting-clause-unknown : goal.returns-in-Some-awaiting-clause-unknown
returns-in-Some-awaiting-clause-unknown c = λ not_memory.
    value_awaited request_grammar with_request_part request_clear c.args.words.now c.loop-word.word-index
    _ _ c.in-Some-awaiting.setting (rw c.in-Some-awaiting.is at c.loop-word.invariant) c.loop-word-test.false
