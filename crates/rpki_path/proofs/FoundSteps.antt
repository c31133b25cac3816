-- What a step finds wrong, from what its calls find.
use Rattle.std.proofs.Common.{◌≡◌, ℕ, List, sym, subst, inl, inr}
use Rattle.rpki_der.specs.Place.{Rejects}
use Rattle.rpki_der.specs.declared.error.DecodeError.{DecodeError}
use Rattle.rpki_der.specs.declared.error.DecodeError.TheVariants as decoding
use Rattle.rpki_ext.specs.Kinds.{Means}
use Rattle.rpki_parts.specs.Conditions.{IsFirstFalse}
use Rattle.rpki_cert.specs.Certificates.{CertFields, IsCertificate}
use Rattle.rpki_cert.specs.Validation.{IsInvalid, IsValidBelow}
use Rattle.rpki_cert.specs.Verification.{Context, IsVerified, IsFirstFalseOrMemory, ResourceFields}
use Rattle.rpki_cert.specs.declared.inspect.Kind.{Kind}
use Rattle.rpki_cert.specs.declared.validation_error.ValidationError.{ValidationError}
use Rattle.rpki_cert.specs.declared.validation_error.ValidationError.TheVariants.{Inspection, Verification}
use Rattle.rpki_cert.specs.declared.verification_error.VerificationError.{VerificationError}
use Rattle.rpki_cert.specs.declared.verification_error.VerificationError.TheVariants as verification
use Rattle.rpki_crl.specs.Revocation.{revocation_checks}
use Rattle.rpki_crl.specs.declared.revocation_error.RevocationError.{RevocationError}
use Rattle.rpki_path.specs.Asking.{RevocationChecks}
use Rattle.rpki_path.specs.FaultNames.{of_decoding, of_verification, of_validation}
use Rattle.rpki_path.specs.declared.path_fault.PathFault.{PathFault}
use Rattle.rpki_path.specs.declared.path_fault.PathFault.TheVariants.{Decode, Inspect, Verify, Revocation, Memory}
use Rattle.rpki_path.specs.Paths.{Demand, Finds}
use Rattle.rpki_path.specs.Paths.Steps.{IsUnread, IsIssuedBy, demand_under}

-- an error of reading says that no certificate begins the string
pub not_decoded : (octets : List ℕ) (e : DecodeError) →
    Rejects e ((c : CertFields) → Means IsCertificate c octets → ⊥) → IsUnread octets (of_decoding e)
not_decoded octets decoding.Memory h = tt
not_decoded octets e h = ((λ same. absurd (cc same)), h)

module _ (x : Context) (d : Demand) (octets : List ℕ) where
  -- a string of which no certificate was read is found so
  pub unread : (e : PathFault) → IsUnread octets e → Finds x d octets e
  unread (Decode e) h = h
  unread (Inspect e) h = absurd h
  unread (Verify e) h = absurd h
  unread (Revocation e) h = absurd h
  unread Memory h = tt

  module _ (c : CertFields) (begins : Means IsCertificate c octets) where
    first_false : (e : VerificationError) →
        IsInvalid d.kind x.strict c (IsFirstFalse (d.check c) d.checks) (Verification e) →
        Finds x d octets (of_verification e)
    first_false verification.Memory h = tt
    first_false _ h = (c, begins, h)

    not_verified : (e : VerificationError) →
        IsInvalid d.kind x.strict c (IsFirstFalseOrMemory (d.check c) d.checks) (Verification e) →
        Finds x d octets (of_verification e)
    not_verified verification.Memory h = tt
    not_verified e (meets, inl same) = absurd (cc same)
    not_verified e (meets, inr h) = first_false e (meets, h)

    -- a certificate that isn't valid is found so
    pub not_valid : (e : ValidationError) →
        IsInvalid d.kind x.strict c (IsFirstFalseOrMemory (d.check c) d.checks) e →
        Finds x d octets (of_validation e)
    not_valid (Inspection e) h = (c, begins, h)
    not_valid (Verification e) h = not_verified e h

-- ---- a member, from the certificate that is decoded

module _ (x : Context) (asked : RevocationChecks) (issuer : ResourceFields) (k : Kind) (octets : List ℕ)
    (c : CertFields) (r : ResourceFields) (begins : Means IsCertificate c octets)
    (below : IsValidBelow x issuer k c r) where
  pub issued_by : IsVerified (asked issuer.cert.fields r.cert) revocation_checks → IsIssuedBy x asked issuer k octets r
  issued_by free =
      let same : c ≡ r.cert = sym below.issued.cert_is in
      record {
        begins = subst (λ (d : CertFields). Means IsCertificate d octets) same begins;
        below = subst (λ (d : CertFields). IsValidBelow x issuer k d r) same below;
        unrevoked = free;
      }

  -- a member that is revoked is found so
  pub revoked_below : (e : RevocationError) → IsFirstFalse (asked issuer.cert.fields r.cert) revocation_checks e →
      Finds x (demand_under x asked issuer k) octets (Revocation e)
  revoked_below e first = record {
    cert = c;
    begins = begins;
    meets = below.meets;
    verified = below.checks;
    first = subst (λ (d : CertFields). IsFirstFalse (asked issuer.cert.fields d) revocation_checks e)
        below.issued.cert_is first;
  }
