-- Where all checks are true but the signature's, nothing but the signature is in the way.
use Rattle.std.specs.List.{AllByRecursion}
use Rattle.std.specs.Prelude.{Bool, Result, Err, IfErr}
use Rattle.std.proofs.Common.{◌≡◌, ◌⊎◌, ℕ, List, [], ◌∷◌, refl, sym, subst, ◌∙◌, inl, inr}
use Rattle.rpki_der.specs.Times.{Moment}
use Rattle.rpki_parts.specs.Conditions.{IsFirstFalse}
use Rattle.rpki_parts.specs.Signatures.{Verifies}
use Rattle.rpki_cert.specs.Certificates.{TbsFields, CertFields, CanBeWritten}
use Rattle.rpki_cert.specs.Profiles.{MeetsProfile, Lacks, faults}
use Rattle.rpki_cert.specs.Validation.{IsInvalid}
use Rattle.rpki_cert.specs.Verification.{Context, Held, context, held_by, nothing_held, Check, IsFirstFalseOrMemory}
use Rattle.rpki_cert.specs.Verification.{IsVerified}
use Rattle.rpki_cert.specs.declared.validation_error.ValidationError.{ValidationError}
use Rattle.rpki_cert.specs.declared.validation_error.ValidationError.TheVariants.{Inspection, Verification}
use Rattle.rpki_cert.specs.declared.verification_error.VerificationError.{VerificationError}
use Rattle.rpki_cert.specs.declared.verification_error.VerificationError.TheVariants.{BadSignature}
use Rattle.rpki_cert.specs.declared.verification_error.VerificationError.TheVariants as verifying
use Rattle.rpki_cert.proofs.Checks.{first_not_all}
use Rattle.rpki_issuing.specs.IssuingErrors.{error_of_verification, error_of_validation}
use Rattle.rpki_issuing.specs.Readiness.{signed_with, unsigned_certificate, IsUnassembled, but_signature, IsSignatureOf}
use Rattle.rpki_issuing.specs.Readiness.{IsIncomplete, IsSignatureFault, IsUnready}
use Rattle.rpki_issuing.specs.Roles.{role_kind, RoleCheck, role_checks, IsValidAs, IsInvalidAs}
use Rattle.rpki_issuing.specs.declared.issuing_error.IssuingError.{IssuingError}
use Rattle.rpki_issuing.specs.declared.issuing_error.IssuingError.TheVariants.{Unwritable, TooLong, Invalid, Memory}
use Rattle.rpki_issuing.specs.declared.role.Role.{Role}
use Rattle.rpki_issuing.specs.declared.role.Role.TheVariants.{Anchor, Authority, EndEntity, Detached, Router}

-- ---- lists of conditions of which all but one follow

module _ {X : Type 0} (P Q : X → Type 0) (b : X) (follows : (y : X) → (y ≡ b) ⊎ (P y → Q y)) where
  all_but : (xs : List X) → Q b → AllByRecursion P xs → AllByRecursion Q xs
  all_but [] q all = tt
  all_but (y ∷ ys) q all = (here (follows y), all_but ys q all.1)
    where
      here : (y ≡ b) ⊎ (P y → Q y) → Q y
      here (inl same) = subst Q (sym same) q
      here (inr f) = f all.0

  pub first_is : (xs : List X) (e : X) → AllByRecursion P xs → IsFirstFalse Q xs e → (e ≡ b) × (Q b → ⊥)
  first_is [] e all h = absurd h
  first_is (y ∷ ys) e all (inr h) = first_is ys e all.1 h.1
  first_is (y ∷ ys) e all (inl h) = here (follows y)
    where
      here : (y ≡ b) ⊎ (P y → Q y) → (e ≡ b) × (Q b → ⊥)
      here (inl same) = (h.0 ∙ same, subst (λ (z : X). Q z → ⊥) same h.1)
      here (inr f) = absurd (h.1 (f all.0))

-- ---- why a certificate isn't valid in its role

module _ (x : Context) (role : Role) (c : CertFields) where
  verified_not : (e : VerificationError) → MeetsProfile (role_kind role) x.strict c →
      IsFirstFalse (RoleCheck x role c) (role_checks role) e → IsInvalidAs x role c (error_of_verification e)
  verified_not verifying.Memory meets first = tt
  verified_not _ meets first = (meets, first)

  -- what is said of one that is verified and gets numbers
  pub invalid_below : (e : ValidationError) →
      IsInvalid (role_kind role) x.strict c (IsFirstFalseOrMemory (RoleCheck x role c) (role_checks role)) e →
      IsInvalidAs x role c (error_of_validation e)
  invalid_below (Inspection e) h = h
  invalid_below (Verification e) (meets, inl same) =
      subst (λ (d : VerificationError). IsInvalidAs x role c (error_of_verification d)) (sym same) tt
  invalid_below (Verification e) (meets, inr first) = verified_not e meets first

  -- what is said of one that is verified alone
  pub invalid_alone : (e : ValidationError) →
      IsInvalid (role_kind role) x.strict c (IsFirstFalse (RoleCheck x role c) (role_checks role)) e →
      IsInvalidAs x role c (error_of_validation e)
  invalid_alone (Inspection e) h = h
  invalid_alone (Verification e) (meets, first) = verified_not e meets first

-- what is told of a copy is told of it, in its role
pub passed_on : {T : Type 0} (x : Context) (role told : Role) (c copy : CertFields) (r : Result T IssuingError)
    (e : IssuingError) → r ≡ Err e → role ≡ told → copy ≡ c → IsInvalidAs x told copy e →
    IfErr r (IsInvalidAs x role c)
passed_on x role told c copy r e is same one h =
    let of_it = subst (λ (d : CertFields). IsInvalidAs x told d e) one h in
    subst (λ s. IfErr s (IsInvalidAs x role c)) (sym is) (subst (λ (a : Role). IsInvalidAs x a c e) (sym same) of_it)

-- before it is signed
pub unready : (now : Moment) (strict : Bool) (role : Role) (f : TbsFields) (e : IssuingError) →
    IsInvalidAs (but_signature now strict) role (unsigned_certificate f) e → IsUnready now strict role f e
unready now strict role f Unwritable h = absurd h
unready now strict role f TooLong h = absurd h
unready now strict role f (Invalid e) h = h
unready now strict role f Memory h = tt

-- once it is signed
pub incomplete : (x : Context) (role : Role) (f : TbsFields) (value : List ℕ) (e : IssuingError) →
    IsInvalidAs x role (signed_with f value) e → IsIncomplete x role f value e
incomplete x role f value Unwritable h = h
incomplete x role f value TooLong h = absurd h
incomplete x role f value (Invalid e) h = h
incomplete x role f value Memory h = tt

-- ---- the signature is checked in one place alone

-- the profile asks only which algorithm it names
meets_same : (strict : Bool) (role : Role) (f : TbsFields) (value : List ℕ) →
    MeetsProfile (role_kind role) strict (unsigned_certificate f) →
    MeetsProfile (role_kind role) strict (signed_with f value)
meets_same strict Anchor f value h = h
meets_same strict (Authority issuer) f value h = h
meets_same strict (EndEntity issuer) f value h = h
meets_same strict (Detached issuer) f value h = h
meets_same strict (Router issuer) f value h = h

module _ (V : Verifies) (now : Moment) (strict : Bool) (f : TbsFields) (value : List ℕ) where
  check_same : (issuer : TbsFields) (held : Held) (e : VerificationError) →
      (e ≡ BadSignature) ⊎ (Check (but_signature now strict) issuer held (unsigned_certificate f) e →
      Check (context V now strict) issuer held (signed_with f value) e)
  check_same issuer held BadSignature = inl refl
  check_same issuer held _ = inr (λ h. h)

  checks_same : (role : Role) (e : VerificationError) →
      (e ≡ BadSignature) ⊎ (RoleCheck (but_signature now strict) role (unsigned_certificate f) e →
      RoleCheck (context V now strict) role (signed_with f value) e)
  checks_same Anchor e = check_same f nothing_held e
  checks_same (Authority issuer) e = check_same issuer.now.cert.fields (held_by issuer.now) e
  checks_same (EndEntity issuer) e = check_same issuer.now.cert.fields (held_by issuer.now) e
  checks_same (Detached issuer) e = check_same issuer.now.cert.fields (held_by issuer.now) e
  checks_same (Router issuer) e = check_same issuer.now.cert.fields (held_by issuer.now) e

  signature_check : (role : Role) → RoleCheck (context V now strict) role (signed_with f value) BadSignature →
      IsSignatureOf V role f value
  signature_check Anchor h = h
  signature_check (Authority issuer) h = h
  signature_check (EndEntity issuer) h = h
  signature_check (Detached issuer) h = h
  signature_check (Router issuer) h = h

  check_signature : (role : Role) → IsSignatureOf V role f value →
      RoleCheck (context V now strict) role (signed_with f value) BadSignature
  check_signature Anchor h = h
  check_signature (Authority issuer) h = h
  check_signature (EndEntity issuer) h = h
  check_signature (Detached issuer) h = h
  check_signature (Router issuer) h = h

  -- what is ready is valid once it is signed
  pub valid_signed : (role : Role) → IsValidAs (but_signature now strict) role (unsigned_certificate f) →
      IsSignatureOf V role f value → IsValidAs (context V now strict) role (signed_with f value)
  valid_signed role valid signed = record {
    meets = meets_same strict role f value valid.meets;
    checks = all_but (RoleCheck (but_signature now strict) role (unsigned_certificate f))
        (RoleCheck (context V now strict) role (signed_with f value)) BadSignature (checks_same role)
        (role_checks role) (check_signature role signed) valid.checks;
  }

  -- what is valid is signed
  pub signed_of : (role : Role) →
      IsVerified (RoleCheck (context V now strict) role (signed_with f value)) (role_checks role) →
      IsSignatureOf V role f value
  signed_of Anchor (_, (_, (_, (_, (_, (h, _)))))) = h
  signed_of (Authority issuer) (_, (_, (_, (_, (_, (h, _)))))) = h
  signed_of (EndEntity issuer) (_, (_, (_, (_, (_, (h, _)))))) = h
  signed_of (Detached issuer) (_, (_, (_, (_, (_, (h, _)))))) = h
  signed_of (Router issuer) (_, (_, (_, (_, (_, (h, _)))))) = h

  -- what is ready fails by the signature alone
  pub signature_fault : (role : Role) (e : IssuingError) →
      IsValidAs (but_signature now strict) role (unsigned_certificate f) →
      IsIncomplete (context V now strict) role f value e → IsSignatureFault V role f value e
  signature_fault role Unwritable valid h = h
  signature_fault role TooLong valid h = h
  signature_fault role Memory valid h = tt
  signature_fault role (Invalid (Inspection e)) valid h =
      absurd (first_not_all (Lacks (role_kind role) strict (signed_with f value)) (faults (role_kind role)) e h
      (meets_same strict role f value valid.meets))
  signature_fault role (Invalid (Verification e)) valid (meets, first) =
      let (same, unsigned_is) = first_is (RoleCheck (but_signature now strict) role (unsigned_certificate f))
      (RoleCheck (context V now strict) role (signed_with f value)) BadSignature (checks_same role)
      (role_checks role) e valid.checks first in
      subst (λ (d : VerificationError). IsSignatureFault V role f value (Invalid (Verification d))) (sym same)
      (λ signed. unsigned_is (check_signature role signed))

-- ---- why nothing was put together

pub unassembled_unready : (now : Moment) (strict : Bool) (role : Role) (f : TbsFields) (e : IssuingError) →
    IsUnassembled f [] e → IsUnready now strict role f e
unassembled_unready now strict role f Unwritable h = h
unassembled_unready now strict role f TooLong h = h
unassembled_unready now strict role f (Invalid e) h = absurd h
unassembled_unready now strict role f Memory h = tt

pub unassembled_incomplete : (x : Context) (role : Role) (f : TbsFields) (value : List ℕ) (e : IssuingError) →
    CanBeWritten f → IsUnassembled f value e → IsIncomplete x role f value e
unassembled_incomplete x role f value Unwritable can h = absurd (h can)
unassembled_incomplete x role f value TooLong can h = h
unassembled_incomplete x role f value (Invalid e) can h = absurd h
unassembled_incomplete x role f value Memory can h = tt
