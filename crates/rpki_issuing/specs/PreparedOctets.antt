-- What is to be signed, and what is completed by its signature (RFC 6487 4, 7.2; RFC 5280 4.1.1.3).
use Rattle.std.specs.Prelude.{◌≡◌, ◌≢◌, ◌^◌, ◌<◌, ℕ, Bool, List, Option, Some, None, length}
use Rattle.rpki_cert.specs.Certificates.{TbsFields, CertFields, IsTbsCertificate, encoding}
use Rattle.rpki_cert.specs.Verification.{ResourceFields}
use Rattle.rpki_cert.specs.declared.inspect.Kind.{Kind}
use Rattle.rpki_der.specs.Times.{Moment}
use Rattle.rpki_crl.specs.Revocation.{revocation_checks}
use Rattle.rpki_issuing.specs.Acceptance.{AskedIn, IsUnrevokedIn}
use Rattle.rpki_issuing.specs.IssuingRules.{KeepsRules, RuleCheck, issuing_rules}
use Rattle.rpki_issuing.specs.Readiness.{signed_with, unsigned_certificate, IsReady, IsSignatureFault}
use Rattle.rpki_issuing.specs.Readiness.{IsSignatureOf, IsUnready}
use Rattle.rpki_issuing.specs.Roles.{role_kind}
use Rattle.rpki_issuing.specs.declared.role.Role.{Role}
use Rattle.rpki_issuing.specs.declared.role.Role.TheVariants.{Anchor, Authority, EndEntity, Detached, Router}
use Rattle.rpki_keys.specs.KeyForms.{IsUsableKey}
use Rattle.rpki_keys.specs.RsaSignatures.{IsSignedByRsa}
use Rattle.rpki_parts.specs.Conditions.{IsFirstFalse}
use Rattle.rpki_parts.specs.SignedDatas.{signed_content, signed_data}
use Rattle.rpki_path.specs.Asking.{RevocationChecks}
use Rattle.rpki_issuing.specs.declared.wanted.preparing.WantedError.{WantedError}
use Rattle.rpki_issuing.specs.declared.wanted.preparing.WantedError.TheVariants as error

-- the issuer of the role
abbrev pub issuer_in : Role → Option ResourceFields
issuer_in Anchor = None
issuer_in (Authority issuer) = Some issuer.now
issuer_in (EndEntity issuer) = Some issuer.now
issuer_in (Detached issuer) = Some issuer.now
issuer_in (Router issuer) = Some issuer.now

-- the role of a certificate of this kind below this issuer
pub record IsRoleOf (kind : Kind) (issuer : Option ResourceFields) (role : Role) : Type 0 where
  pub kind_is : role_kind role ≡ kind
  pub issuer_is : issuer_in role ≡ issuer

-- a certificate of this kind has no such issuer
abbrev pub HasNoRole : Kind → Option ResourceFields → Type 0
HasNoRole kind issuer = (role : Role) → IsRoleOf kind issuer role → ⊥

-- ---- what is prepared

-- the fields are ready to be signed as a certificate of this kind below this issuer, the last of
-- this path; they keep the rules, and by who is asked the certificate isn't revoked; and these are
-- the octets that are to be signed
pub record IsPrepared (kind : Kind) (issuer : Option ResourceFields) (path : List (List ℕ))
    (asked : RevocationChecks) (at : Moment) (strict : Bool) (f : TbsFields)
    (octets : List ℕ) : Type 0 where
  pub role : Role
  pub role_is : IsRoleOf kind issuer role
  pub rules : KeepsRules kind issuer path f
  pub ready : IsReady at strict role f
  pub unrevoked : IsUnrevokedIn asked issuer (unsigned_certificate f)
  pub octets_are : octets ≡ encoding f

-- it is unready in its role for this; or memory was wanted
abbrev pub IsUnpreparedAs : Moment → Bool → Role → TbsFields → WantedError → Type 0
IsUnpreparedAs at strict role f (error.Unready e) = IsUnready at strict role f e
IsUnpreparedAs at strict role f error.Memory = Unit {0}
IsUnpreparedAs at strict role f _ = ⊥

-- why nothing is prepared: it has no role, doesn't keep a rule, isn't ready in its role, or is
-- revoked by who is asked; or memory was wanted
abbrev pub IsUnprepared : Kind → Option ResourceFields → List (List ℕ) → RevocationChecks → Moment
    → Bool → TbsFields → WantedError → Type 0
IsUnprepared kind issuer path asked at strict f error.NoRole = HasNoRole kind issuer
IsUnprepared kind issuer path asked at strict f (error.Broken rule) =
    IsFirstFalse (RuleCheck kind issuer path f) issuing_rules rule
IsUnprepared kind issuer path asked at strict f (error.Listed e) =
    IsFirstFalse (AskedIn asked issuer (unsigned_certificate f)) revocation_checks e
IsUnprepared kind issuer path asked at strict f error.Memory = Unit {0}
IsUnprepared kind issuer path asked at strict f e =
    (role : Role) × IsRoleOf kind issuer role × IsUnpreparedAs at strict role f e

-- ---- what is completed

-- the octets are a TBSCertificate with these fields, of a key that the RPKI uses
pub record IsToSign (f : TbsFields) (octets : List ℕ) : Type 0 where
  pub is_data : IsTbsCertificate f octets
  pub usable : IsUsableKey f.key

-- the octets were prepared of these fields, the key of who issues signed them, this is the
-- certificate, and it isn't revoked by who is asked
pub record IsCompleted (kind : Kind) (issuer : Option ResourceFields) (path : List (List ℕ))
    (asked : RevocationChecks) (at : Moment) (strict : Bool) (f : TbsFields)
    (prepared signature octets : List ℕ) : Type 0 where
  pub role : Role
  pub role_is : IsRoleOf kind issuer role
  pub rules : KeepsRules kind issuer path f
  pub ready : IsReady at strict role f
  pub prepared_is : prepared ≡ encoding f
  pub signed : IsSignatureOf IsSignedByRsa role f signature
  pub short : length (signed_content (signed_with f signature).signed_data) < 2 ^ 32
  pub unrevoked : IsUnrevokedIn asked issuer (signed_with f signature)
  pub octets_are : octets ≡ signed_data (signed_with f signature).signed_data

-- the signature isn't one of what is prepared in its role, or makes it too long; or memory was
-- wanted
abbrev pub IsUnsignedAs : Role → TbsFields → List ℕ → WantedError → Type 0
IsUnsignedAs role f signature (error.Unsigned e) = IsSignatureFault IsSignedByRsa role f signature e
IsUnsignedAs role f signature error.Memory = Unit {0}
IsUnsignedAs role f signature _ = ⊥

-- why nothing is completed: nothing is prepared of the fields, or other octets than these; or the
-- signature is wrong; or the certificate is revoked by who is asked; or memory was wanted
abbrev pub IsUncompleted : Kind → Option ResourceFields → List (List ℕ) → RevocationChecks
    → Moment → Bool → TbsFields → List ℕ → List ℕ → WantedError → Type 0
IsUncompleted kind issuer path asked at strict f prepared signature error.OtherOctets =
    prepared ≢ encoding f
IsUncompleted kind issuer path asked at strict f prepared signature (error.Unsigned e) =
    (role : Role) × IsRoleOf kind issuer role × IsUnsignedAs role f signature (error.Unsigned e)
IsUncompleted kind issuer path asked at strict f prepared signature (error.Listed e) =
    IsFirstFalse (AskedIn asked issuer (signed_with f signature)) revocation_checks e
IsUncompleted kind issuer path asked at strict f prepared signature e =
    IsUnprepared kind issuer path asked at strict f e

-- the first check of revocation that isn't true of the certificate; or memory was wanted
abbrev pub IsListedFault : RevocationChecks → Option ResourceFields → CertFields → WantedError
    → Type 0
IsListedFault asked issuer c (error.Listed e) = IsFirstFalse (AskedIn asked issuer c) revocation_checks e
IsListedFault asked issuer c error.Memory = Unit {0}
IsListedFault asked issuer c _ = ⊥
