use Rattle.std.specs.Prelude.{fold, map}
use Rattle.std.proofs.Common.{rules, ◌≡◌, ◌∙◌, ℕ, List, Err, ap, inl, inr, sym, subst}
use Rattle.rpki_text.specs.CommandLines.Views.{word_octets}
use Rattle.rpki_text.specs.WordParts.{AddsParts, AreInOrder, IsFirstWrong}
use Rattle.rpki_requests.specs.RequestMisuses.{IsWrongRequestStart}
use Rattle.rpki_requests.specs.RequestWords.{AskedFields, IsRequestPart, file, only_errand, with_request_part}
use Rattle.rpki_requests.specs.RequestWords.Views.{asked_fields}
use Rattle.rpki_requests.proofs.OneErrand.{no_parts, only, reason_told, unsuited}
use Rattle.rpki_requests.proofs.words.read_request.Goals as goal

pub returns-in_err-add_words-clause-rejected : goal.returns-in_err-add_words-clause-rejected
returns-in_err-add_words-clause-rejected c =
    let is : c.from_residual-in_err-add_words.result ≡ Err c.in_err-add_words.field-0.0 = search rules in
    rw is (λ not_memory. no_parts (word_octets c.args.words.now) c.in_ok-errand.errand
    (word_octets c.in_ok-errand.rest.now) c.in_ok-errand.ensures.named
    (λ parts are. c.in_err-add_words.ensures.unknown not_memory parts
    (subst (λ (l : List (List ℕ)). AreInOrder IsRequestPart parts l) (sym c.around_dashes.ensures.before)
    are)))

pub returns-in_err-add_words-clause-told : goal.returns-in_err-add_words-clause-told
returns-in_err-add_words-clause-told c =
    let is : c.from_residual-in_err-add_words.result ≡ Err c.in_err-add_words.field-0.0 = search rules in
    rw is (λ not_memory. inr (
      c.in_ok-errand.errand,
      word_octets c.in_ok-errand.rest.now,
      c.in_ok-errand.ensures.named,
      inl (subst (λ (l : List (List ℕ)). IsFirstWrong IsRequestPart IsWrongRequestStart c.in_err-add_words.field-0.0 l)
          c.around_dashes.ensures.before (c.in_err-add_words.ensures.told not_memory)),
    ))

pub returns-in-Some-clause-told : goal.returns-in-Some-clause-told
returns-in-Some-clause-told c = λ not_memory.
    let mid = asked_fields c.add_words.new.asked in
    let begun = subst (λ (a : AskedFields). AddsParts IsRequestPart with_request_part
    (word_octets c.around_dashes.result.0.now) a mid) c.new_asked-asked.ensures
    c.in_ok-add_words.ensures.added in
    let adds = subst (λ (l : List (List ℕ)). AddsParts IsRequestPart with_request_part l
    (only_errand c.in_ok-errand.errand)
    mid) c.around_dashes.ensures.before begun in
    let files = c.in_ok-add_files.ensures.added ∙ ap (λ (l : List (List ℕ)). fold with_request_part mid (map file l))
    c.around_dashes.ensures.behind in
    inr (
      c.in_ok-errand.errand,
      word_octets c.in_ok-errand.rest.now,
      c.in_ok-errand.ensures.named,
      inr (reason_told (word_octets c.args.words.now) c.in_ok-errand.errand (word_octets c.in_ok-errand.rest.now)
          c.in_ok-errand.ensures.named mid (asked_fields c.add_files.new.asked) adds files
          _ c.in-Some.ensures.told),
    )

pub returns-in-Some-clause-rejected : goal.returns-in-Some-clause-rejected
returns-in-Some-clause-rejected c = λ not_memory.
    let mid = asked_fields c.add_words.new.asked in
    let begun = subst (λ (a : AskedFields). AddsParts IsRequestPart with_request_part
    (word_octets c.around_dashes.result.0.now) a mid) c.new_asked-asked.ensures
    c.in_ok-add_words.ensures.added in
    let adds = subst (λ (l : List (List ℕ)). AddsParts IsRequestPart with_request_part l
    (only_errand c.in_ok-errand.errand)
    mid) c.around_dashes.ensures.before begun in
    let files = c.in_ok-add_files.ensures.added ∙ ap (λ (l : List (List ℕ)). fold with_request_part mid (map file l))
    c.around_dashes.ensures.behind in
    unsuited (word_octets c.args.words.now) c.in_ok-errand.errand (word_octets c.in_ok-errand.rest.now)
    c.in_ok-errand.ensures.named mid (asked_fields c.add_files.new.asked) adds files c.in-Some.ensures.wrong

pub returns-clause-nothing_else : goal.returns-clause-nothing_else
returns-clause-nothing_else c =
    let mid = asked_fields c.add_words.new.asked in
    let begun = subst (λ (a : AskedFields). AddsParts IsRequestPart with_request_part
    (word_octets c.around_dashes.result.0.now) a mid) c.new_asked-asked.ensures
    c.in_ok-add_words.ensures.added in
    let adds = subst (λ (l : List (List ℕ)). AddsParts IsRequestPart with_request_part l
    (only_errand c.in_ok-errand.errand)
    mid) c.around_dashes.ensures.before begun in
    let files = c.in_ok-add_files.ensures.added ∙ ap (λ (l : List (List ℕ)). fold with_request_part mid (map file l))
    c.around_dashes.ensures.behind in
    only (word_octets c.args.words.now) c.in_ok-errand.errand (word_octets c.in_ok-errand.rest.now)
    c.in_ok-errand.ensures.named mid (asked_fields c.add_files.new.asked) adds files
