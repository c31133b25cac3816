-- Files have at most one outcome.
use Rattle.std.proofs.Common.{◌≡◌, ◌∷◌, ◌++◌, [], ℕ, List, inl, inr, refl, sym, subst, ◌∙◌}
use Rattle.rpki_path.specs.GivenPaths.{PathStrings}
use Rattle.rpki_path.specs.declared.judging.Judged.{Judged}
use Rattle.rpki_cert.specs.Verification.{Context}
use Rattle.rpki_text.specs.declared.command_line.arguments.Task.{Task}
use Rattle.rpki_text.specs.declared.command_line.arguments.Task.TheVariants.{Show, Validate, Tree, Help, Version}
use Rattle.rpki_answers.specs.declared.outcomes.Outcome.{Outcome}
use Rattle.rpki_answers.specs.declared.outcomes.Outcome.TheVariants.{Success, Rejection, WrongUse, Unread}
use Rattle.rpki_verdicts.specs.declared.path.Verdict.{Verdict}
use Rattle.rpki_verdicts.specs.declared.path.Verdict.TheVariants.{Accepted, Rejected}
use Rattle.rpki_verdicts.specs.declared.path.Fault.{Fault}
use Rattle.rpki_verdicts.specs.PathAnswers.{IsVerdictBy}
use Rattle.rpki_verdicts.specs.PathFiles.{Demands, IsGivenBy}
use Rattle.rpki_answers.specs.Outcomes.{IsOutcomeOf, IsOutcomeOfShow, IsOutcomeOfValidate}

-- no files are no path
no_path : (g : PathStrings) → IsGivenBy [] g → ⊥
no_path g (inl p) = let e : [] ≡ p.0 ∷ [] = p.1 in cc
no_path g (inr p) = let e : [] ≡ p.split.anchor ∷ (p.split.cas ++ p.split.octets ∷ []) = p.split.strings_are in cc

no_verdict : (x : Context) (d : Demands) (lists : List (List ℕ)) (verdict : Verdict) → IsVerdictBy x d [] lists verdict → ⊥
no_verdict x d [] verdict h = no_path h.0 h.1
no_verdict x d (list ∷ lists) verdict h = no_path h.2.0 h.2.1

module _ (x : Context) (d : Demands) (files lists : List (List ℕ)) (never_both : (j : Judged) (fault : Fault) →
    IsVerdictBy x d files lists (Accepted j) → IsVerdictBy x d files lists (Rejected fault) → ⊥) where
  never_both_validated : IsOutcomeOfValidate x d files lists Success → IsOutcomeOfValidate x d files lists Rejection → ⊥
  never_both_validated a (inl empty) =
      no_verdict x d lists (Accepted a.0.0)
      (subst (λ (l : List (List ℕ)). IsVerdictBy x d l lists (Accepted a.0.0)) empty a.0.1)
  never_both_validated a (inr (inl b)) = never_both a.0.0 b.0 a.0.1 b.1
  never_both_validated a (inr (inr none)) = none a.1

  one_validated : (o p : Outcome) → IsOutcomeOfValidate x d files lists o → IsOutcomeOfValidate x d files lists p → o ≡ p
  one_validated Success Success a b = refl
  one_validated Success Rejection a b = absurd (never_both_validated a b)
  one_validated Rejection Success a b = absurd (never_both_validated b a)
  one_validated Rejection Rejection a b = refl
  one_validated WrongUse p a b = absurd a
  one_validated Unread p a b = absurd a
  one_validated o WrongUse a b = absurd b
  one_validated o Unread a b = absurd b

  one_shown : (o p : Outcome) → IsOutcomeOfShow x.strict files o → IsOutcomeOfShow x.strict files p → o ≡ p
  one_shown Success Success a b = refl
  one_shown Success Rejection a b = absurd (b a)
  one_shown Rejection Success a b = absurd (a b)
  one_shown Rejection Rejection a b = refl
  one_shown WrongUse p a b = absurd a
  one_shown Unread p a b = absurd a
  one_shown o WrongUse a b = absurd b
  one_shown o Unread a b = absurd b

  pub one_outcome : (task : Task) → (task ≡ Tree → ⊥) → (o p : Outcome) → IsOutcomeOf task x d files lists o →
      IsOutcomeOf task x d files lists p → o ≡ p
  one_outcome Show not o p a b = one_shown o p a b
  one_outcome Validate not o p a b = one_validated o p a b
  one_outcome Tree not o p a b = absurd (not refl)
  one_outcome Help not o p a b = a ∙ sym b
  one_outcome Version not o p a b = a ∙ sym b
