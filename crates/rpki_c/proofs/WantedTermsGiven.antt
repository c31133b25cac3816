-- Wanted certificates, and completions, that have no terms.
use Rattle.std.proofs.Common.{◌≢◌, ◌<◌, Bool, true, false, arith, subst}
use Rattle.rpki_der.specs.Times.{IsMoment}
use Rattle.rpki_c.specs.Questions.{HasNoTerms}
use Rattle.rpki_c.specs.TimeParts.{moment_of_parts}
use Rattle.rpki_c.specs.WantedQuestions.{completion_size, trim_number, wanted_size, HasNoCompletionTerms}
use Rattle.rpki_c.specs.WantedQuestions.{HasNoWantedTerms}
use Rattle.rpki_c.specs.declared.completing.RpkiCompletion.{RpkiCompletion}
use Rattle.rpki_c.specs.declared.wanted.RpkiWanted.{RpkiWanted}
use Rattle.rpki_c.proofs.QuestionTerms.{kind_small}

trim_small : (b : Bool) → trim_number b < 2
trim_small false = omega arith
trim_small true = omega arith

module _ (w : RpkiWanted) where
  pub no_wanted_size : w.size ≢ wanted_size → HasNoWantedTerms w
  no_wanted_size h t terms = h terms.size_is

  pub no_wanted_kind : 4 < w.kind → HasNoWantedTerms w
  no_wanted_kind h t terms = omega (arith, h, terms.kind_is, kind_small t.kind)

  pub no_wanted_policy : 1 < w.overclaim → HasNoWantedTerms w
  no_wanted_policy h t terms = omega (arith, h, terms.policy_is, trim_small t.trims)

  pub no_wanted_path : HasNoTerms w.issuer → HasNoWantedTerms w
  no_wanted_path h t terms = h t.asked terms.path_is

  pub no_wanted_begin : (IsMoment (moment_of_parts w.not_before) → ⊥) → HasNoWantedTerms w
  no_wanted_begin h t terms = h (subst IsMoment terms.begin_is terms.begin_exists)

  pub no_wanted_end : (IsMoment (moment_of_parts w.not_after) → ⊥) → HasNoWantedTerms w
  no_wanted_end h t terms = h (subst IsMoment terms.end_is terms.end_exists)

module _ (c : RpkiCompletion) where
  pub no_completion_size : c.size ≢ completion_size → HasNoCompletionTerms c
  no_completion_size h t terms = h terms.size_is

  pub no_completion_kind : 4 < c.kind → HasNoCompletionTerms c
  no_completion_kind h t terms = omega (arith, h, terms.kind_is, kind_small t.kind)

  pub no_completion_path : HasNoTerms c.issuer → HasNoCompletionTerms c
  no_completion_path h t terms = h t.asked terms.path_is
