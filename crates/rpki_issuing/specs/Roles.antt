-- What a certificate is issued as: of which kind, and by whom (RFC 6487 4, 7.2, RFC 8209 3).
use Rattle.std.specs.Prelude.{List}
use Rattle.rpki_parts.specs.Conditions.{IsFirstFalse}
use Rattle.rpki_parts.specs.Keys.{KeyFields}
use Rattle.rpki_cert.specs.Certificates.{TbsFields, CertFields}
use Rattle.rpki_cert.specs.Profiles.{MeetsProfile}
use Rattle.rpki_cert.specs.Validation.{IsInvalid}
use Rattle.rpki_cert.specs.Verification.{Context, CheckUnder, TrustAnchorCheck, IsVerified, ResourceFields}
use Rattle.rpki_cert.specs.Verification.{HasIssued, trust_anchor_checks, issued_checks, router_checks}
use Rattle.rpki_cert.specs.declared.inspect.Kind.{Kind}
use Rattle.rpki_cert.specs.declared.inspect.Kind.TheVariants as kind
use Rattle.rpki_cert.specs.declared.verification_error.VerificationError.{VerificationError}
use Rattle.rpki_issuing.specs.declared.issuing_error.IssuingError.{IssuingError}
use Rattle.rpki_issuing.specs.declared.issuing_error.IssuingError.TheVariants.{Unwritable, TooLong, Invalid, Memory}
use Rattle.rpki_issuing.specs.declared.role.Role.{Role}
use Rattle.rpki_issuing.specs.declared.role.Role.TheVariants.{Anchor, Authority, EndEntity, Detached, Router}

-- of which kind it is
abbrev pub role_kind : Role → Kind
role_kind Anchor = kind.Anchor
role_kind (Authority issuer) = kind.Authority
role_kind (EndEntity issuer) = kind.EndEntity
role_kind (Detached issuer) = kind.Detached
role_kind (Router issuer) = kind.Router

-- whose key signs it: a trust anchor's own, else the issuer's
abbrev pub signing_key : Role → TbsFields → KeyFields
signing_key Anchor f = f.key
signing_key (Authority issuer) f = issuer.now.cert.fields.key
signing_key (EndEntity issuer) f = issuer.now.cert.fields.key
signing_key (Detached issuer) f = issuer.now.cert.fields.key
signing_key (Router issuer) f = issuer.now.cert.fields.key

-- the check is true of it: of a trust anchor below itself, else below the issuer
abbrev pub RoleCheck : Context → Role → CertFields → VerificationError → Type 0
RoleCheck x Anchor c = TrustAnchorCheck x c
RoleCheck x (Authority issuer) c = CheckUnder x issuer.now c
RoleCheck x (EndEntity issuer) c = CheckUnder x issuer.now c
RoleCheck x (Detached issuer) c = CheckUnder x issuer.now c
RoleCheck x (Router issuer) c = CheckUnder x issuer.now c

-- which checks are asked
abbrev pub role_checks : Role → List VerificationError
role_checks Anchor = trust_anchor_checks
role_checks (Authority issuer) = issued_checks
role_checks (EndEntity issuer) = issued_checks
role_checks (Detached issuer) = issued_checks
role_checks (Router issuer) = router_checks

-- it meets the profile of its kind, and its checks are true
pub record IsValidAs (x : Context) (role : Role) (c : CertFields) : Type 0 where
  pub meets : MeetsProfile (role_kind role) x.strict c
  pub checks : IsVerified (RoleCheck x role c) (role_checks role)

-- there are the sets of numbers that it gets of its issuer's (RFC 6487 7.2); of a trust anchor, and
-- of a router, none are made
abbrev pub GetsNumbers : Role → CertFields → Type 0
GetsNumbers Anchor c = Unit {0}
GetsNumbers (Authority issuer) c = (r : ResourceFields) × HasIssued c issuer.now r
GetsNumbers (EndEntity issuer) c = (r : ResourceFields) × HasIssued c issuer.now r
GetsNumbers (Detached issuer) c = (r : ResourceFields) × HasIssued c issuer.now r
GetsNumbers (Router issuer) c = Unit {0}

-- why it isn't: its first fault, or then the first check that isn't true; or memory was wanted
abbrev pub IsInvalidAs : Context → Role → CertFields → IssuingError → Type 0
IsInvalidAs x role c Unwritable = ⊥
IsInvalidAs x role c TooLong = ⊥
IsInvalidAs x role c (Invalid e) =
    IsInvalid (role_kind role) x.strict c (IsFirstFalse (RoleCheck x role c) (role_checks role)) e
IsInvalidAs x role c Memory = Unit {0}
