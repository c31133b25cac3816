use Rattle.std.specs.Prelude.{IsFalse, IsTrue}
use Rattle.std.proofs.Common.{◌≡◌, ◌↔◌, ◌∙◌, Bool, true, false, refl, subst, sym}
use Rattle.std.proofs.lemmas.Bool.{false≢true}
use Rattle.rpki_answers.specs.declared.outcomes.Outcome.{Outcome}
use Rattle.rpki_answers.specs.declared.outcomes.Outcome.TheVariants.{Success, Rejection}
use Rattle.rpki_answers.proofs.trees.treed.Goals as goal

abbrev IsSuccess : Outcome → Type 0
IsSuccess Success = Unit {0}
IsSuccess _ = ⊥

-- an outcome by a yes is success only where it is so, and rejection only where it isn't
tells : (P : Type 0) (outcome : Outcome) (yes : Bool) → (IsTrue yes → outcome ≡ Success) →
    (IsFalse yes → outcome ≡ Rejection) → (IsTrue yes ↔ P) → (outcome ≡ Success → P) × (outcome ≡ Rejection → P → ⊥)
tells P outcome true succeeds rejects says =
    ((λ is. says.0 refl), (λ is holds. subst IsSuccess (sym (succeeds refl) ∙ is) tt))
tells P outcome false succeeds rejects says =
    ((λ is. absurd (subst IsSuccess (sym is ∙ rejects refl) tt)), (λ is holds. false≢true (says.1 holds)))

pub returns-clause-answer : goal.returns-clause-answer
returns-clause-answer c =
    let outcome = tells _ c.of_answer.result c.is_accepting-is_accepting.result c.of_answer.ensures.success
    c.of_answer.ensures.rejection c.is_accepting-is_accepting.ensures in
    (c.in_ok-finding.finding, c.in_ok-finding.ensures, rw (c.in_ok-text.was) at c.printed_finding-text.ensures, outcome.0, outcome.1)
