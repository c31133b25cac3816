-- Why nothing is prepared or completed, told of the kind below the issuer.
use Rattle.std.proofs.Common.{◌≡◌, ◌≢◌, ◌⊎◌, inl, inr, refl, subst, arith}
use Rattle.std.specs.Prelude.{ℕ, ◌^◌, ◌<◌, ◌≤◌, Bool, List, Option, length}
use Rattle.rpki_cert.specs.Certificates.{TbsFields, CertFields}
use Rattle.rpki_cert.specs.Verification.{ResourceFields}
use Rattle.rpki_cert.specs.declared.inspect.Kind.{Kind}
use Rattle.rpki_cert.proofs.Checks.{first_not_all}
use Rattle.rpki_crl.specs.Revocation.{revocation_checks}
use Rattle.rpki_der.specs.Times.{Moment}
use Rattle.rpki_issuing.specs.Readiness.{signed_with, unsigned_certificate as unsigned_of}
use Rattle.rpki_issuing.specs.declared.issuing_error.IssuingError.TheVariants.{TooLong}
use Rattle.rpki_issuing.specs.declared.role.Role.{Role}
use Rattle.rpki_parts.specs.SignedDatas.{SignedFields, signed_content}
use Rattle.rpki_path.specs.Asking.{RevocationChecks}
use Rattle.rpki_issuing.specs.Acceptance.{AskedIn, IsUnrevokedIn}
use Rattle.rpki_issuing.specs.PreparedOctets.{IsListedFault, IsRoleOf, IsUncompleted, IsUnprepared, IsUnpreparedAs}
use Rattle.rpki_issuing.specs.PreparedOctets.{IsUnsignedAs}
use Rattle.rpki_issuing.specs.declared.wanted.preparing.WantedError.{WantedError}
use Rattle.rpki_issuing.specs.declared.wanted.preparing.WantedError.TheVariants.{Unready, Unsigned, Listed, Memory}

-- what is told of a certificate isn't so of one that is short and unrevoked
pub refused_made : (asked : RevocationChecks) (issuer : Option ResourceFields) (c : CertFields) (e : WantedError) →
    e ≢ Memory → IsListedFault asked issuer c e ⊎
    ((e ≡ Unsigned TooLong) × (2 ^ 32 ≤ length (signed_content c.signed_data))) →
    length (signed_content c.signed_data) < 2 ^ 32 → IsUnrevokedIn asked issuer c → ⊥
refused_made asked issuer c (Listed e) apart (inl first) short free =
    first_not_all (AskedIn asked issuer c) revocation_checks e first free
refused_made asked issuer c Memory apart (inl h) short free = apart refl
refused_made asked issuer c _ apart (inl h) short free = absurd h
refused_made asked issuer c e apart (inr long) short free = let more = long.1 in omega arith

-- nor of what is to be signed
pub refused_listed : (asked : RevocationChecks) (issuer : Option ResourceFields) (c : CertFields)
    (e : WantedError) → e ≢ Memory → IsListedFault asked issuer c e → IsUnrevokedIn asked issuer c → ⊥
refused_listed asked issuer c (Listed e) apart first free = first_not_all (AskedIn asked issuer c) revocation_checks
    e first free
refused_listed asked issuer c Memory apart h free = apart refl
refused_listed asked issuer c _ apart h free = absurd h

module _ (kind : Kind) (issuer : Option ResourceFields) (path : List (List ℕ)) (asked : RevocationChecks)
    (at : Moment) (strict : Bool) (f : TbsFields) where
  pub listed : (e : WantedError) → IsListedFault asked issuer (unsigned_of f) e →
      IsUnprepared kind issuer path asked at strict f e
  listed (Listed e) h = h
  listed Memory h = tt
  listed _ h = absurd h

  module _ (role : Role) (is : IsRoleOf kind issuer role) where
    pub unprepared : (e : WantedError) → IsUnpreparedAs at strict role f e →
        IsUnprepared kind issuer path asked at strict f e
    unprepared (Unready e) h = (role, is, h)
    unprepared Memory h = tt
    unprepared _ h = absurd h

    module _ (prepared signature : List ℕ) where
      pub uncompleted : (e : WantedError) → IsUnpreparedAs at strict role f e →
          IsUncompleted kind issuer path asked at strict f prepared signature e
      uncompleted (Unready e) h = (role, is, h)
      uncompleted Memory h = tt
      uncompleted _ h = absurd h

      pub unsigned : (e : WantedError) → IsUnsignedAs role f signature e →
          IsUncompleted kind issuer path asked at strict f prepared signature e
      unsigned (Unsigned e) h = (role, is, h)
      unsigned Memory h = tt
      unsigned _ h = absurd h

      pub made_told : (e : WantedError) (c : CertFields) → c ≡ signed_with f signature →
          IsListedFault asked issuer c e ⊎
          ((e ≡ Unsigned TooLong) × (2 ^ 32 ≤ length (signed_content c.signed_data))) →
          IsUncompleted kind issuer path asked at strict f prepared signature e
      made_told (Listed e) c same (inl first) = subst (λ (d : CertFields). IsListedFault asked issuer d (Listed e))
          same first
      made_told Memory c same (inl h) = tt
      made_told _ c same (inl h) = absurd h
      made_told e c same (inr long) =
          rw long.0 (
            role,
            is,
            subst (λ (d : CertFields). 2 ^ 32 ≤ length (signed_content d.signed_data)) same
                long.1,
          )
