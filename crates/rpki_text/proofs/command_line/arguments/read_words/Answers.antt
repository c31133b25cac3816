use Rattle.std.proofs.Common.{rules, ◌≡◌, ◌∷◌, ℕ, List, Err, sym, subst}
use Rattle.rpki_text.specs.CommandLines.{AreParts, IsPart, IsTaskName}
use Rattle.rpki_text.specs.CommandLines.Views.{word_octets}
use Rattle.rpki_text.specs.WordParts.{IsFirstWrong}
use Rattle.rpki_text.specs.Misuses.{IsWrongFirst}
use Rattle.rpki_text.proofs.OneRequest.{no_parts, only, unsuited, task_told, word_told, reason_told}
use Rattle.rpki_text.proofs.UnsuitedRequests.{reason_unsuited}
use Rattle.rpki_text.proofs.WrongWords.{wrong_no_parts}
use Rattle.rpki_text.proofs.command_line.arguments.read_words.Goals as goal

pub returns-in_err-add_words-clause-rejected : goal.returns-in_err-add_words-clause-rejected
returns-in_err-add_words-clause-rejected c =
    let split : word_octets c.args.words.now ≡ c.as_slice.result.now ∷ word_octets c.in-Some.rest.now = search rules in
    let is : c.from_residual.result ≡ Err c.in_err-add_words.field-0.0 = search rules in
    rw is (λ not_memory. no_parts (word_octets c.args.words.now) c.as_slice.result.now (word_octets c.in-Some.rest.now) split
    (λ parts are. wrong_no_parts _ _ (c.in_err-add_words.ensures.told not_memory) parts
    (subst (λ (l : List (List ℕ)). AreParts parts l) (sym c.around_dashes.ensures.before) are)))

pub returns-in_err-add_words-clause-told : goal.returns-in_err-add_words-clause-told
returns-in_err-add_words-clause-told c =
    let split : word_octets c.args.words.now ≡ c.as_slice.result.now ∷ word_octets c.in-Some.rest.now = search rules in
    let task_is : IsTaskName c.in-Some-task_of.task c.as_slice.result.now = search rules in
    let is : c.from_residual.result ≡ Err c.in_err-add_words.field-0.0 = search rules in
    rw is (λ not_memory. word_told (word_octets c.args.words.now) c.as_slice.result.now
    (word_octets c.in-Some.rest.now) split c.in_err-add_words.field-0.0 c.in-Some-task_of.task task_is
    (subst (λ (l : List (List ℕ)). IsFirstWrong IsPart IsWrongFirst c.in_err-add_words.field-0.0 l)
    c.around_dashes.ensures.before (c.in_err-add_words.ensures.told not_memory)))

-- the first names no task
pub returns-in_default-task_of-clause-told : goal.returns-in_default-task_of-clause-told
returns-in_default-task_of-clause-told c = λ not_memory.
    let split : word_octets c.args.words.now ≡ c.as_slice.result.now ∷ word_octets c.in-Some.rest.now = search rules in
    task_told (word_octets c.args.words.now) c.as_slice.result.now (word_octets c.in-Some.rest.now) split
    _ (search rules, c.in_default-task_of.ensures.unknown)

pub returns-in-Some-misuse_of-clause-rejected : goal.returns-in-Some-misuse_of-clause-rejected
returns-in-Some-misuse_of-clause-rejected c = λ not_memory.
    let split : word_octets c.args.words.now ≡ c.as_slice.result.now ∷ word_octets c.in-Some.rest.now = search rules in
    let task_is : IsTaskName c.in-Some-task_of.task c.as_slice.result.now = search rules in
    unsuited _ _ _ split _ task_is _ _ c.around_dashes.ensures.before c.around_dashes.ensures.behind
    _ _ _ c.new_request-request.ensures c.in_ok-add_words.ensures.added c.in_ok-add_files.ensures.added
    (reason_unsuited _ _ _ c.in-Some-misuse_of.ensures.told)

pub returns-in-Some-misuse_of-clause-told : goal.returns-in-Some-misuse_of-clause-told
returns-in-Some-misuse_of-clause-told c = λ not_memory.
    let split : word_octets c.args.words.now ≡ c.as_slice.result.now ∷ word_octets c.in-Some.rest.now = search rules in
    let task_is : IsTaskName c.in-Some-task_of.task c.as_slice.result.now = search rules in
    reason_told _ _ _ split _ task_is _ _ c.around_dashes.ensures.before c.around_dashes.ensures.behind
    _ _ _ c.new_request-request.ensures c.in_ok-add_words.ensures.added c.in_ok-add_files.ensures.added
    _ c.in-Some-misuse_of.ensures.told

pub returns-clause-nothing_else : goal.returns-clause-nothing_else
returns-clause-nothing_else c =
    let split : word_octets c.args.words.now ≡ c.as_slice.result.now ∷ word_octets c.in-Some.rest.now = search rules in
    let task_is : IsTaskName c.in-Some-task_of.task c.as_slice.result.now = search rules in
    only _ _ _ split _ task_is _ _ c.around_dashes.ensures.before c.around_dashes.ensures.behind
    _ _ _ c.new_request-request.ensures c.in_ok-add_words.ensures.added c.in_ok-add_files.ensures.added
