-- The list that a certificate names is the one under its URI.
use Rattle.std.specs.Prelude.{Result, IsOk}
use Rattle.std.proofs.Common.{◌≡◌, ◌↔◌, ℕ, List, Some, subst, sym}
use Rattle.rpki_parts.specs.Conditions.{Tests}
use Rattle.rpki_cert.specs.Certificates.{TbsFields, CertFields}
use Rattle.rpki_cert.specs.Verification.{Context}
use Rattle.rpki_cert.proofs.Checks.{tests_map, ok_exactly}
use Rattle.rpki_crl.specs.Lists.{CrlState}
use Rattle.rpki_crl.specs.Revocation.{RevocationCheck, CertRevocationCheck, IsUnderUri, IsListOf, IsUnrevoked, revocation_checks}
use Rattle.rpki_crl.specs.Stores.{Stored}
use Rattle.rpki_crl.specs.declared.revocation_error.RevocationError.{RevocationError}
use Rattle.rpki_crl.specs.declared.revocation_error.RevocationError.TheVariants.{NoCrl, WrongKeyId, BadSignature}
use Rattle.rpki_crl.specs.declared.revocation_error.RevocationError.TheVariants.{Stale, Revoked, WrongIssuer}

module _ (x : Context) (pairs : List Stored) (issuer : TbsFields) (c : CertFields) (uri : List ℕ)
    (is : c.fields.extensions.crl_uri ≡ Some uri) where
  abbrev UnderUri : RevocationError → Type 0
  UnderUri = RevocationCheck x issuer c.fields.serial (IsUnderUri pairs uri)

  named : (crl : CrlState) → IsListOf pairs c crl → IsUnderUri pairs uri crl
  named crl (other, given, under) =
      let same : other ≡ uri = cc (is, given) in
      subst (λ (u : List ℕ). IsUnderUri pairs u crl) same under

  check_of : (e : RevocationError) → UnderUri e → CertRevocationCheck x pairs issuer c e
  check_of NoCrl l = (l.0, (uri, is, l.1))
  check_of WrongKeyId l = λ crl at. l crl (named crl at)
  check_of BadSignature l = λ crl at. l crl (named crl at)
  check_of Stale l = λ crl at. l crl (named crl at)
  check_of Revoked l = λ crl at. l crl (named crl at)
  check_of WrongIssuer l = λ crl at. tt

  under_of : (e : RevocationError) → CertRevocationCheck x pairs issuer c e → UnderUri e
  under_of NoCrl l = (l.0, named l.0 l.1)
  under_of WrongKeyId l = λ crl at. l crl (uri, is, at)
  under_of BadSignature l = λ crl at. l crl (uri, is, at)
  under_of Stale l = λ crl at. l crl (uri, is, at)
  under_of Revoked l = λ crl at. l crl (uri, is, at)
  under_of WrongIssuer l = λ crl at. tt

  -- what is tested under the URI is what is tested of the certificate
  module _ (serial : ℕ) (number : c.fields.serial ≡ serial) (r : Result (Unit {0}) RevocationError)
      (t : Tests (RevocationCheck x issuer serial (IsUnderUri pairs uri)) revocation_checks r) where
    pub tests_named : Tests (CertRevocationCheck x pairs issuer c) revocation_checks r
    tests_named =
        let own : Tests UnderUri revocation_checks r =
        subst (λ (n : ℕ). Tests (RevocationCheck x issuer n (IsUnderUri pairs uri)) revocation_checks r)
        (sym number) t in
        tests_map UnderUri (CertRevocationCheck x pairs issuer c) revocation_checks r (λ e. (check_of e, under_of e)) own

    pub ok_unrevoked : IsOk r ↔ IsUnrevoked x pairs issuer c
    ok_unrevoked = ok_exactly (CertRevocationCheck x pairs issuer c) revocation_checks r tests_named
