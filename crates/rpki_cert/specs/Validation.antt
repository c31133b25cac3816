-- Which certificates are valid, and why one isn't: the inspection of its kind comes first, then its
-- checks are verified (RFC 6487 7.2).
use Rattle.std.specs.Prelude.{Bool, List, ℕ, codes}
use Rattle.rpki_cert.specs.Certificates.{CertFields}
use Rattle.rpki_cert.specs.Profiles.{MeetsProfile, IsFirstFault}
use Rattle.rpki_cert.specs.Verification.{Context, CheckUnder, TrustAnchorCheck, IsVerified, IsFirstFalseOrMemory}
use Rattle.rpki_cert.specs.Verification.{ResourceFields, HasListed, HasIssued, issued_checks, trust_anchor_checks}
use Rattle.rpki_cert.specs.declared.inspect.Kind.{Kind}
use Rattle.rpki_cert.specs.declared.inspect.Kind.TheVariants.{Anchor}
use Rattle.rpki_cert.specs.declared.validation_error.ValidationError.{ValidationError}
use Rattle.rpki_cert.specs.declared.validation_error.ValidationError.TheVariants.{Inspection, Verification}
use Rattle.rpki_cert.specs.declared.verification_error.VerificationError.{VerificationError}

-- the first fault that c has as a certificate of this kind; or it has none, and its checks fail so
abbrev pub IsInvalid : Kind → Bool → CertFields → (VerificationError → Type 0) → ValidationError → Type 0
IsInvalid kind strict c Fails (Inspection e) = IsFirstFault kind strict c e
IsInvalid kind strict c Fails (Verification e) = MeetsProfile kind strict c × Fails e

-- ---- below an issuer

-- c is a certificate of this kind that is valid below the issuer, and r has what it gets of the
-- issuer's numbers
pub record IsValidBelow (x : Context) (issuer : ResourceFields) (kind : Kind) (c : CertFields) (r : ResourceFields) : Type 0 where
  pub meets : MeetsProfile kind x.strict c
  pub checks : IsVerified (CheckUnder x issuer c) issued_checks
  pub issued : HasIssued c issuer r

-- why it isn't; or memory was wanted
abbrev pub IsInvalidBelow : Context → ResourceFields → Kind → CertFields → ValidationError → Type 0
IsInvalidBelow x issuer kind c = IsInvalid kind x.strict c (IsFirstFalseOrMemory (CheckUnder x issuer c) issued_checks)

-- ---- a trust anchor

-- c is a trust anchor that is valid, and r has what it lists, with this locator
pub record IsValidTrustAnchor (x : Context) (tal : List ℕ) (c : CertFields) (r : ResourceFields) : Type 0 where
  pub meets : MeetsProfile Anchor x.strict c
  pub checks : IsVerified (TrustAnchorCheck x c) trust_anchor_checks
  pub listed : HasListed c tal r

-- why it isn't; or memory was wanted
abbrev pub IsInvalidTrustAnchor : Context → CertFields → ValidationError → Type 0
IsInvalidTrustAnchor x c = IsInvalid Anchor x.strict c (IsFirstFalseOrMemory (TrustAnchorCheck x c) trust_anchor_checks)

-- ---- names

abbrev pub validation_error_name : ValidationError → List ℕ
validation_error_name (Inspection e) = codes "Inspection"
validation_error_name (Verification e) = codes "Verification"
