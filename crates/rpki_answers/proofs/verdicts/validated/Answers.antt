use Rattle.std.specs.Prelude.{IsFalse, IsTrue}
use Rattle.std.proofs.Common.{◌≡◌, ◌↔◌, Bool, true, false, Some, None, inl, inr, refl, subst}
use Rattle.std.proofs.lemmas.Bool.{false≢true}
use Rattle.std.proofs.lemmas.List.Elements.{All-get_or}
use Rattle.std.proofs.lemmas.Option.{slice_get_within, get_or_from_slice_get}
use Rattle.rpki_keys.specs.RsaSignatures.{IsSignedByRsa}
use Rattle.rpki_cert.specs.Verification.{Context, context}
use Rattle.rpki_files.specs.Files.{contents}
use Rattle.rpki_answers.specs.Outcomes.{IsOutcomeOfValidate}
use Rattle.rpki_answers.specs.VerdictTexts.{IsAcceptedFinding, IsFinding}
use Rattle.rpki_verdicts.specs.declared.path.Verdict.TheVariants.{Accepted, Rejected}
use Rattle.rpki_answers.specs.declared.outcomes.Outcome.{Outcome}
use Rattle.rpki_answers.specs.declared.outcomes.Outcome.TheVariants.{Success, Rejection}
use Rattle.rpki_answers.specs.declared.verdicts.Finding.{Finding}
use Rattle.rpki_answers.specs.declared.verdicts.Finding.TheVariants.{NotALocator, NotAList, Decided}
use Rattle.rpki_document.specs.Building.{nodes_of}
use Rattle.rpki_files.specs.LocatorFiles.{AreLocator}
use Rattle.rpki_verdicts.specs.GivenLocators.{locator_octets}
use Rattle.rpki_verdicts.specs.PathFiles.{QuestionFields, demands_of}
use Rattle.rpki_answers.proofs.verdicts.validated.Goals as goal

module _ (x : Context) (q : QuestionFields) where
  success : (finding : Finding) → IsAcceptedFinding finding → IsFinding x q finding →
      IsOutcomeOfValidate x (demands_of q) (contents q.members) (contents q.lists) Success
  success (NotALocator fault) accepted is = absurd accepted
  success NotAList accepted is = absurd accepted
  success (Decided None) accepted is = absurd accepted
  success (Decided (Some (Accepted r))) accepted is = ((r, is.1), is.0)
  success (Decided (Some (Rejected fault))) accepted is = absurd accepted

  rejection : (finding : Finding) → (IsAcceptedFinding finding → ⊥) → IsFinding x q finding →
      IsOutcomeOfValidate x (demands_of q) (contents q.members) (contents q.lists) Rejection
  rejection (NotALocator fault) not_accepted is =
      let files = locator_octets q.locators in
      inr (inr (λ given. is.no_locator
      (subst (AreLocator x.strict) (get_or_from_slice_get files fault.index is.octets is.octets is.octets_are)
      (All-get_or (AreLocator x.strict) files fault.index is.octets
      (slice_get_within files fault.index is.octets is.octets_are) given.0))))
  rejection NotAList not_accepted is = inr (inr (λ given. is.1 given.1))
  rejection (Decided None) not_accepted is = inl is.1
  rejection (Decided (Some (Accepted r))) not_accepted is = absurd (not_accepted tt)
  rejection (Decided (Some (Rejected fault))) not_accepted is = inr (inl (fault, is.1))

  outcome_is : (outcome : Outcome) (yes : Bool) (finding : Finding) → (IsTrue yes → outcome ≡ Success) →
      (IsFalse yes → outcome ≡ Rejection) → (IsTrue yes ↔ IsAcceptedFinding finding) → IsFinding x q finding →
      IsOutcomeOfValidate x (demands_of q) (contents q.members) (contents q.lists) outcome
  outcome_is outcome true finding succeeds rejects says is = rw (succeeds refl) (success finding (says.0 refl) is)
  outcome_is outcome false finding succeeds rejects says is =
      rw (rejects refl) (rejection finding (λ accepted. false≢true (says.1 accepted)) is)

pub returns-clause-outcome : goal.returns-clause-outcome
returns-clause-outcome c =
    let q = c.args.question.now in
    let x = context IsSignedByRsa q.at q.strict in
    outcome_is x q c.of_answer.result c.is_accepted-is_accepted.result c.in_ok-finding.finding
    c.of_answer.ensures.success c.of_answer.ensures.rejection c.is_accepted-is_accepted.ensures
    c.in_ok-finding.ensures

pub returns-clause-text : goal.returns-clause-text
returns-clause-text c = λ is_text. record {
  finding = c.in_ok-finding.finding;
  finding_is = c.in_ok-finding.ensures;
  nodes = nodes_of c.in_ok-parts.parts.items;
  nodes_are = c.in_ok-parts.ensures;
  text_is = c.in_ok-text.ensures.text is_text;
}

pub returns-clause-json : goal.returns-clause-json
returns-clause-json c = λ is_other. record {
  finding = c.in_ok-finding.finding;
  finding_is = c.in_ok-finding.ensures;
  nodes = nodes_of c.in_ok-parts.parts.items;
  nodes_are = c.in_ok-parts.ensures;
  text_is = c.in_ok-text.ensures.json is_other;
}
