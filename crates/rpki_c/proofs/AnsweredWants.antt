-- Why nothing is prepared or completed, from one step to the next.
use Rattle.std.specs.Prelude.{Option, Err}
use Rattle.std.proofs.Common.{◌≡◌, subst}
use Rattle.rpki_cert.specs.Certificates.{TbsFields}
use Rattle.rpki_cert.specs.Verification.{ResourceFields}
use Rattle.rpki_issuing.specs.PreparedOctets.{IsUncompleted, IsUnprepared}
use Rattle.rpki_issuing.specs.declared.wanted.preparing.WantedError.{WantedError}
use Rattle.rpki_issuing.specs.declared.wanted.preparing.WantedError.TheVariants as wanting
use Rattle.rpki_c.specs.WantedAnswers.{AnswersBelow, AnswersCompletedBelow, AnswersFields, AnswersSigned}
use Rattle.rpki_c.specs.WantedAnswers.{AnswersValue, WantsFields, GivesValues, checks_above, issuer_above}
use Rattle.rpki_c.specs.WantedAnswers.{strings_above, unfit_of}
use Rattle.rpki_issuing.specs.Issuers.{HasIssuerName}
use Rattle.rpki_issuing.specs.PreparedOctets.{IsToSign}
use Rattle.rpki_c.specs.declared.completing.CompletionTerms.{CompletionTerms}
use Rattle.rpki_c.specs.declared.completing.RpkiCompletion.{RpkiCompletion}
use Rattle.rpki_c.specs.declared.judging.Accepted.{Accepted}
use Rattle.rpki_c.specs.declared.unissued.Unissued.{Unissued}
use Rattle.rpki_c.specs.declared.unissued.Unissued.TheVariants.{NoName, Unfit}
use Rattle.rpki_c.specs.declared.wanted.RpkiWanted.{RpkiWanted}
use Rattle.rpki_c.specs.declared.wanted.WantedTerms.{WantedTerms}

-- what holds of an issuer, its path and who is asked holds of those that are the same
pub three_same : {A B C : Type 0} {a i : A} {b j : B} {c k : C} (P : A → B → C → Type 0) → a ≡ i → b ≡ j → c ≡ k →
    P a b c → P i j k
three_same {a} {i} {b} {j} {c} {k} P p q r h =
    subst (λ z. P i j z) r (subst (λ y. P i y c) q (subst (λ x. P x b c) p h))

module _ (w : RpkiWanted) (t : WantedTerms) where
  pub value_fields : (issuer : Option ResourceFields) (e : Unissued) → AnswersValue w (GivesValues w t) (Err e) →
      AnswersFields w t issuer (Err e)
  value_fields issuer NoName h = absurd h
  value_fields issuer _ h = h

  module _ (above : Option Accepted) where
    pub fields_below : (e : Unissued) → AnswersFields w t (issuer_above above) (Err e) → AnswersBelow w t above (Err e)
    fields_below (Unfit e) h = absurd h
    fields_below _ h = h

    pub unfit_below : (f : TbsFields) → WantsFields w t (issuer_above above) f → (e : WantedError) →
        IsUnprepared t.kind (issuer_above above) (strings_above above) (checks_above t.asked above) t.asked.now
        t.asked.strict f e → AnswersBelow w t above (Err (unfit_of e))
    unfit_below f asks wanting.Memory h = tt
    unfit_below f asks _ h = (f, asks, h)

module _ (c : RpkiCompletion) (t : CompletionTerms) (above : Option Accepted) where
  pub signed_below : (e : Unissued) → AnswersSigned (issuer_above above) c.prepared.now (Err e) →
      AnswersCompletedBelow c t above (Err e)
  signed_below (Unfit e) h = absurd h
  signed_below _ h = h

  pub unfit_completed : (f : TbsFields) → IsToSign f c.prepared.now → HasIssuerName (issuer_above above) f →
      (e : WantedError) →
      IsUncompleted t.kind (issuer_above above) (strings_above above) (checks_above t.asked above) t.asked.now
      t.asked.strict f c.prepared.now c.signature.now e → AnswersCompletedBelow c t above (Err (unfit_of e))
  unfit_completed f signed named wanting.Memory h = tt
  unfit_completed f signed named _ h = (f, signed, named, h)
