use Rattle.std.specs.Prelude.{Err, Ok}
use Rattle.std.proofs.Common.{◌≡◌, ◌∙◌, ℕ, List, inr, length, refl, subst}
use Rattle.rpki_path.specs.GivenPaths.{CanEndIn, IsSplitAs}
use Rattle.rpki_path.specs.GivenPaths.{PathStrings}
use Rattle.rpki_c.specs.Questions.{HasTerms}
use Rattle.rpki_c.specs.Verdicts.{AreStringsOf, IsQuestionPath}
use Rattle.rpki_c.specs.declared.question.RpkiQuestion.{RpkiQuestion}
use Rattle.rpki_c.specs.declared.question.Terms.{Terms}
use Rattle.rpki_c.proofs.AllAsked.{all_given, fails_all}
use Rattle.rpki_c.proofs.Unread.{passed_on}
use Rattle.rpki_c.proofs.judging.judge_terms.Goals as goal

-- what was split are the question's strings
question_path : (q : RpkiQuestion) (t : Terms) → HasTerms q t → (strings given : List (List ℕ)) → given ≡ strings →
    AreStringsOf q.members strings → CanEndIn t.last (length given) → (path : PathStrings) →
    IsSplitAs given t.last path → IsQuestionPath q t strings path
question_path q t terms strings given are cut can_end path split = record {
  terms_are = terms;
  strings_are = cut;
  can_end = subst (λ (ss : List (List ℕ)). CanEndIn t.last (length ss)) are can_end;
  split = subst (λ (ss : List (List ℕ)). IsSplitAs ss t.last path) are split;
}

pub returns-in_err-judged-clause-refused : goal.returns-in_err-judged-clause-refused
returns-in_err-judged-clause-refused c =
    let strings = c.in_ok-strings.strings.items in
    let t = c.args.terms.now in
    let path = c.in-Some.path in
    let path_is = question_path c.args.question.now t c.requires strings c.deref-2.result.now
    (c.deref-2.ensures.value ∙ c.in_ok-members.ensures ∙ c.deref.ensures.value) c.in_ok-strings.ensures.cut
    (c.in-Some.ensures.some.0 refl) path c.in-Some.ensures.split in
    let e = c.in_err-judged.field-0.0 in
    let same : c.from_residual-in_err-judged.result ≡ Err e =
    passed_on _ _ c.from_residual-in_err-judged.ensures.1 in
    rw same (inr (
      strings,
      path,
      path_is,
      fails_all strings t.last path path_is.split t c.args.question.now e
          (rw c.deref-3.ensures.value at c.in_err-judged.ensures.fails),
    ))

pub returns-clause-accepted : goal.returns-clause-accepted
returns-clause-accepted c =
    let strings = c.in_ok-strings.strings.items in
    let t = c.args.terms.now in
    let path = c.in-Some.path in
    let path_is = question_path c.args.question.now t c.requires strings c.deref-2.result.now
    (c.deref-2.ensures.value ∙ c.in_ok-members.ensures ∙ c.deref.ensures.value) c.in_ok-strings.ensures.cut
    (c.in-Some.ensures.some.0 refl) path c.in-Some.ensures.split in
    let given = c.in_ok-judged.ensures in
    let lists = rw c.deref-3.ensures.value at given.lists in
    let (all, all_are, same) = all_given strings t.last path path_is.split t c.args.question.now.lists
    c.in_ok-judged.lists.items lists in
    record {
      path = path;
      path_is = path_is;
      trusted = given.trusted;
      lists = all;
      lists_are = all_are;
      valid = same (Ok c.in_ok-judged.judged) given.valid;
      named_are = lists;
      chained = given.chained;
      usable = given.usable;
    }
