-- What is wrong of a router's certificate, and that it is then none that is valid below the issuer.
use Rattle.std.specs.Prelude.{Result}
use Rattle.std.proofs.Common.{ℕ, List, Ok, Err, IfErr, inr}
use Rattle.rpki_der.specs.Values.{IsUnambiguous}
use Rattle.rpki_ext.specs.Kinds.{Means}
use Rattle.rpki_parts.specs.Conditions.{IsFirstFalse}
use Rattle.rpki_cert.specs.Certificates.{CertFields, IsCertificate}
use Rattle.rpki_cert.specs.Profiles.{MeetsProfile}
use Rattle.rpki_cert.specs.Validation.{IsInvalid}
use Rattle.rpki_cert.specs.Verification.{Context, ResourceFields, CheckUnder, IsVerified, router_checks}
use Rattle.rpki_cert.specs.declared.inspect.Kind.TheVariants.{Router}
use Rattle.rpki_cert.specs.declared.validation_error.ValidationError.{ValidationError}
use Rattle.rpki_cert.specs.declared.validation_error.ValidationError.TheVariants.{Inspection, Verification}
use Rattle.rpki_crl.specs.Revocation.{revocation_checks}
use Rattle.rpki_crl.specs.declared.revocation_error.RevocationError.{RevocationError}
use Rattle.rpki_path.specs.Asking.{RevocationChecks, nobody}
use Rattle.rpki_path.specs.FaultNames.{of_validation}
use Rattle.rpki_path.specs.Paths.{UnlessMemory, Finds, IsUnasked}
use Rattle.rpki_path.specs.Routers.{BeginsWithRouter, router_demand}
use Rattle.rpki_path.specs.declared.path_fault.PathFault.{PathFault}
use Rattle.rpki_path.specs.declared.path_fault.PathFault.TheVariants.{Revocation}
use Rattle.rpki_path.proofs.FoundSteps.{not_valid}
use Rattle.rpki_path.proofs.Rejections.{unasked_demand, found_against, unless_refuted}
use Rattle.rpki_path.proofs.ValidPaths.{unasked_checks}

module _ (x : Context) (asked : RevocationChecks) (issuer : ResourceFields) where
  module _ (c : CertFields) (octets : List ℕ) (begins : Means IsCertificate c octets) where
    -- one that isn't valid is found so
    pub router_invalid : (e : ValidationError) →
        IsInvalid Router x.strict c (IsFirstFalse (CheckUnder x issuer c) router_checks) e
        → Finds x (router_demand x asked issuer) octets (of_validation e)
    router_invalid (Inspection e) h = not_valid x (router_demand x asked issuer) octets c begins (Inspection e) h
    router_invalid (Verification e) h = not_valid x (router_demand x asked issuer) octets c begins (Verification e)
        (h.0, inr h.1)

    -- one that isn't found unrevoked is found so
    pub router_revoked : MeetsProfile Router x.strict c → IsVerified (CheckUnder x issuer c) router_checks →
        (e : RevocationError)
        → IsFirstFalse (asked issuer.cert.fields c) revocation_checks e →
        Finds x (router_demand x asked issuer) octets (Revocation e)
    router_revoked meets checks e first =
        record { cert = c; begins = begins; meets = meets; verified = checks; first = first }

  -- what is found of the octets says that no such certificate begins them
  pub no_router : IsUnambiguous IsCertificate → (octets : List ℕ) (e : PathFault) →
      Finds x (router_demand x asked issuer) octets e →
      UnlessMemory e (BeginsWithRouter x asked issuer octets → ⊥)
  no_router law octets e found =
      unless_refuted (BeginsWithRouter x asked issuer octets) e
      (λ b. found_against x law (router_demand x asked issuer) octets e found b.cert b.begins b.under.meets
      b.under.checks b.under.unrevoked)

  -- so none does where the test finds anything but that memory ran out
  pub no_router_at : IsUnambiguous IsCertificate → (octets : List ℕ) (test : Result (Unit {0}) PathFault) →
      IfErr test (Finds x (router_demand x asked issuer) octets)
      → IfErr test (λ e. UnlessMemory e (BeginsWithRouter x asked issuer octets → ⊥))
  no_router_at law octets (Ok done) found = tt
  no_router_at law octets (Err e) found = no_router law octets e found

-- where nobody is asked, no fault is one of revocation
pub no_router_asked : (x : Context) (issuer : ResourceFields) (octets : List ℕ)
    (test : Result (Unit {0}) PathFault) → IfErr test (Finds x (router_demand x nobody issuer) octets) →
    IfErr test IsUnasked
no_router_asked x issuer octets (Ok done) found = tt
no_router_asked x issuer octets (Err e) found = unasked_demand x (router_demand x nobody issuer)
    (λ c. unasked_checks revocation_checks) octets e found
