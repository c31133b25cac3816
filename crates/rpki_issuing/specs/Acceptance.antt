-- What is completed is accepted: a certificate as the last one of a path, a list as the one that is
-- asked of its issuer's certificates (RFC 6487 5, 7.2, RFC 5280 6.3.3, RFC 8209 3.3).
use Rattle.std.specs.Prelude.{◌≡◌, ◌++◌, ℕ, Bool, Contains, IsTrue, List, [], ◌∷◌, Option, Some, None}
use Rattle.rpki_cert.specs.Certificates.{TbsFields, CertFields}
use Rattle.rpki_cert.specs.Verification.{Context, IsVerified, ResourceFields}
use Rattle.rpki_cert.specs.declared.inspect.Kind.{Kind}
use Rattle.rpki_cert.specs.declared.inspect.Kind.TheVariants.{Router}
use Rattle.rpki_crl.specs.Lists.{CrlFields, CrlState, IsCertificateList, ListFields}
use Rattle.rpki_crl.specs.Revocation.{revocation_checks}
use Rattle.rpki_crl.specs.RevokedEntries.{Revoked}
use Rattle.rpki_crl.specs.declared.revocation_error.RevocationError.{RevocationError}
use Rattle.rpki_crl.specs.declared.revocation_error.RevocationError.TheVariants as revocation
use Rattle.rpki_parts.specs.Conditions.{IsFirstFalse}
use Rattle.rpki_path.specs.AskedLists.{IsEligibleNamed, IsNamedBy, Revokes, Supersedes, by_named_lists}
use Rattle.rpki_path.specs.Asking.{RevocationChecks, IsUnrevokedBy}
use Rattle.rpki_path.specs.Paths.{Candidate, IsAccepted, IsPathOf, IsValidPath, Path, candidate}
use Rattle.rpki_path.specs.Routers.{BeginsWithRouter}

-- ---- a certificate

-- the checks of revocation of a certificate below this issuer, by who is asked; of a trust anchor
-- nobody is
abbrev pub AskedIn : RevocationChecks → Option ResourceFields → CertFields → RevocationError
    → Type 0
AskedIn asked None c e = Unit {0}
AskedIn asked (Some issuer) c e = asked issuer.cert.fields c e

-- all of them are true
abbrev pub IsUnrevokedIn : RevocationChecks → Option ResourceFields → CertFields → Type 0
IsUnrevokedIn asked issuer c = IsVerified (AskedIn asked issuer c) revocation_checks

-- the octets are those of a trust anchor, which is a valid path alone
abbrev pub IsAcceptedAlone : Context → RevocationChecks → List ℕ → Type 0
IsAcceptedAlone x asked octets = (p : Path) × IsPathOf octets [] p × IsValidPath x asked p

-- with whatever strings the issuer is accepted as the last one of a path, they are accepted with
-- these octets behind them
abbrev pub IsAcceptedLast : Context → RevocationChecks → ResourceFields → Kind → List ℕ → Type 0
IsAcceptedLast x asked issuer kind octets =
    (anchor : List ℕ) (below : List Candidate) (tal : List ℕ)
    → IsAccepted x asked anchor below tal issuer
    → (r : ResourceFields) × IsAccepted x asked anchor (below ++ candidate kind octets ∷ []) tal r

-- the octets are accepted as a certificate of this kind below this issuer, by who is asked for
-- revocation
abbrev pub IsAcceptedBelow : Context → RevocationChecks → Kind → Option ResourceFields → List ℕ
    → Type 0
IsAcceptedBelow x asked kind None octets = IsAcceptedAlone x asked octets
IsAcceptedBelow x asked Router (Some issuer) octets = BeginsWithRouter x asked issuer octets
IsAcceptedBelow x asked kind (Some issuer) octets = IsAcceptedLast x asked issuer kind octets

-- ---- a list

-- Among these lists this one is asked of the certificate below the issuer, if it can be: the
-- certificate names the issuer's key, the list has the issuer's name if names are asked, and none
-- that can be asked takes its place.
pub record IsAskedAmong (names : Bool) (x : Context) (lists : List CrlState) (issuer : TbsFields)
    (c : CertFields) (l : CrlState) : Type 0 where
  pub inside : Contains lists l
  pub named : IsTrue names → IsNamedBy issuer l.list
  pub names_key :
      c.fields.extensions.authority_key_identifier
      ≡ Some issuer.extensions.subject_key_identifier
  pub stays : (other : CrlState) → Contains lists other
      → IsEligibleNamed names x.verifies x.now issuer c other → Supersedes c other l → ⊥

-- The list answers for its issuer: where it is asked of a certificate, with a table of its serial
-- numbers or without one, it leaves the certificate unrevoked if it doesn't have its serial number,
-- and revokes it if it does.
pub record AnswersFor (x : Context) (issuer : TbsFields) (list : CrlFields) : Type 0 where
  pub unrevoked : (names cached : Bool) (lists : List CrlState) (c : CertFields)
      → let l : CrlState = record { list = list; is_cached = cached } in
      IsAskedAmong names x lists issuer c l → (Revokes c l → ⊥)
      → IsUnrevokedBy (by_named_lists names x lists) issuer c
  pub revoked : (names cached : Bool) (lists : List CrlState) (c : CertFields)
      → let l : CrlState = record { list = list; is_cached = cached } in
      IsAskedAmong names x lists issuer c l → Revokes c l
      → IsFirstFalse (by_named_lists names x lists issuer c) revocation_checks revocation.Revoked

-- the octets are a list with these fields, which answers for its issuer
pub record IsAnsweringList (x : Context) (issuer : TbsFields) (f : ListFields Revoked)
    (octets : List ℕ) : Type 0 where
  pub list : CrlFields
  pub is_list : IsCertificateList list octets
  pub fields_are : list.fields ≡ f
  pub answers : AnswersFor x issuer list
