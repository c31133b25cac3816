use Rattle.std.specs.Bool.{MatchBool}
use Rattle.std.specs.Prelude.{All}
use Rattle.std.proofs.Common.{◌≡◌, ◌∙◌, Bool, true, false, ℕ, List, map, string_bytes, sym, ap, subst}
use Rattle.rpki_text.specs.CommandLines.Views.{fields_of}
use Rattle.rpki_verdicts.specs.GivenLocators.{IsRead}
use Rattle.rpki_verdicts.specs.Trees.{TreeFields}
use Rattle.rpki_answers.specs.AnswerTexts.{IsTreeBy, tree_options_of, tree_question_of}
use Rattle.rpki_answers.specs.TreeDocuments.{IsTree}
use Rattle.rpki_answers.specs.UnreadNames.{unread_names}
use Rattle.rpki_answers.specs.declared.outcomes.Outcome.{Outcome}
use Rattle.rpki_answers.specs.declared.outcomes.Outcome.TheVariants.{Success, Rejection, Unread}
use Rattle.rpki_answers.specs.declared.trees.TreeOptions.{TreeOptions}
use Rattle.rpki_command.proofs.answering.tree.Goals as goal

-- the same is said where another file couldn't be read
said_too : (o : TreeOptions) (q : TreeFields) (u : List (List ℕ)) (are_all_read : Bool) (old new : Outcome)
    (before after : List ℕ) → MatchBool are_all_read (new ≡ old) (new ≡ Unread) → after ≡ before →
    IsTreeBy o q u old before → IsTreeBy o q u new after
said_too o q u true old new before after is same by = (
  by.0,
  by.1,
  subst (λ (text : List ℕ). IsTree o.format o.only_rejected q by.0 u text) (sym same) by.2,
  (λ succeeds. by.3 (sym is ∙ succeeds)),
  (λ rejects. by.4 (sym is ∙ rejects)),
)
said_too o q u false old new before after is same by = (
  by.0,
  by.1,
  subst (λ (text : List ℕ). IsTree o.format o.only_rejected q by.0 u text) (sym same) by.2,
  (λ succeeds. let never : Unread ≡ Success = sym is ∙ succeeds in absurd cc),
  (λ rejects accepts. let never : Unread ≡ Rejection = sym is ∙ rejects in cc),
)

pub treed-requires : goal.treed-requires
treed-requires c = subst (λ (p : TreeFields). All (IsRead p.strict) p.locators) (sym c.tree_question-question.ensures) c.requires

pub returns-clause-answer : goal.returns-clause-answer
returns-clause-answer c =
    let o = tree_options_of (fields_of c.args.request.now) in
    let q = tree_question_of (fields_of c.args.request.now) c.args.now c.args.files.now c.args.locators.now in
    let before = c.in_ok-answer.answer in
    let u = unread_names (fields_of c.args.request.now).files c.args.files.now in
    let unread : map (λ name. name.now) c.in_ok-unread.unread.items ≡ u = rw c.deref.ensures.value at c.in_ok-unread.ensures in
    let given = rw (c.deref-2.ensures.value, unread) at c.in_ok-answer.ensures.answer in
    let by : IsTreeBy o q u before.outcome (string_bytes before.text) =
    subst (λ (p : TreeFields). IsTreeBy o p u before.outcome (string_bytes before.text)) c.tree_question-question.ensures given in
    said_too o q u c.args.are_all_read before.outcome c.if_read.result.outcome (string_bytes before.text)
    (string_bytes c.if_read.result.text) c.if_read.ensures.outcome (ap string_bytes c.if_read.ensures.text) by
