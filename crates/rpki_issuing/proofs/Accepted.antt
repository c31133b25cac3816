-- What is valid in its role and unrevoked is accepted below its issuer.
use Rattle.std.specs.Prelude.{ℕ, Bool, IsTrue, List, [], ◌∷◌, ◌++◌, Option, Some, None, Result, Ok, Err, true, false}
use Rattle.std.proofs.Common.{◌≡◌, ◌⊎◌, ◌<◌, sym, subst, ◌∙◌, refl, ap, arith}
use Rattle.rpki_cert.specs.Certificates.{TbsFields, CertFields, IsCertificate}
use Rattle.rpki_cert.specs.Validation.{IsValidBelow}
use Rattle.rpki_cert.specs.Verification.{Context, HasIssued, IsVerified, ResourceFields, CheckUnder, issued_checks}
use Rattle.rpki_cert.specs.Profiles.{MeetsProfile}
use Rattle.rpki_cert.specs.declared.inspect.Kind.{Kind}
use Rattle.rpki_cert.specs.declared.inspect.Kind.TheVariants as kind
use Rattle.rpki_crl.specs.Lists.{CrlFields, CrlState}
use Rattle.rpki_crl.specs.declared.revocation_error.RevocationError.{RevocationError}
use Rattle.rpki_crl.specs.declared.revocation_error.RevocationError.TheVariants as revocation
use Rattle.rpki_der.proofs.Answering.{whole_means}
use Rattle.rpki_issuing.specs.Acceptance.{AnswersFor, IsAcceptedAlone, IsAcceptedBelow, IsAcceptedLast}
use Rattle.rpki_issuing.specs.Acceptance.{IsAskedAmong, IsUnrevokedIn}
use Rattle.rpki_issuing.specs.ListReadiness.{IsCurrentList}
use Rattle.rpki_issuing.specs.PreparedOctets.{IsRoleOf, issuer_in}
use Rattle.rpki_issuing.specs.Roles.{GetsNumbers, IsValidAs, role_kind}
use Rattle.rpki_issuing.specs.declared.role.Role.{Role}
use Rattle.rpki_issuing.specs.declared.role.Role.TheVariants.{Anchor, Authority, EndEntity, Detached, Router}
use Rattle.rpki_path.specs.AskedLists.{IsEligibleNamed, IsFor, IsForBelow, IsLatest, IsNamedBy, Revokes}
use Rattle.rpki_path.specs.Asking.{RevocationChecks, IsUnrevokedBy}
use Rattle.rpki_path.specs.Paths.{Path}
use Rattle.rpki_path.proofs.AskedNamedList.{answered}
use Rattle.rpki_path.proofs.ValidPaths.{one_more}

-- ---- a certificate

module _ (x : Context) (asked : RevocationChecks) (c : CertFields) (octets : List ℕ) (is : IsCertificate c octets) where
  -- a trust anchor is a path alone
  alone : IsValidAs x Anchor c → IsAcceptedAlone x asked octets
  alone valid = (
    record { anchor = c; below = [] },
    record { anchor_begins = whole_means IsCertificate c octets is; members = tt },
    record {
      anchor_meets = valid.meets;
      members_meet = tt;
      anchor_verified = valid.checks;
      members_verified = λ i h. absurd (omega arith);
      members_unrevoked = λ i h. absurd (omega arith);
    },
  )

  -- what gets its numbers below an issuer is the last of a longer path
  below_issuer : (k : Kind) (issuer r : ResourceFields) → HasIssued c issuer r → MeetsProfile k x.strict c →
      IsVerified (CheckUnder x issuer c) issued_checks → IsUnrevokedBy asked issuer.cert.fields c →
      IsAcceptedLast x asked issuer k octets
  below_issuer k issuer r issued meets checks free = λ anchor below tal accepted.
      let same : c ≡ r.cert = sym issued.cert_is in (
        r,
        one_more x asked anchor below tal issuer k octets r accepted (record {
          begins = whole_means IsCertificate r.cert octets (subst (λ (d : CertFields). IsCertificate d octets) same is);
          below = subst (λ (d : CertFields). IsValidBelow x issuer k d r) same
              (record { meets = meets; checks = checks; issued = issued });
          unrevoked = subst (λ (d : CertFields). IsUnrevokedBy asked issuer.cert.fields d) same free;
        }),
      )

  in_role : (role : Role) → IsValidAs x role c → GetsNumbers role c → IsUnrevokedIn asked (issuer_in role) c →
      IsAcceptedBelow x asked (role_kind role) (issuer_in role) octets
  in_role Anchor valid gets free = alone valid
  in_role (Authority issuer) valid gets free = below_issuer kind.Authority issuer.now gets.0 gets.1 valid.meets
      valid.checks free
  in_role (EndEntity issuer) valid gets free = below_issuer kind.EndEntity issuer.now gets.0 gets.1 valid.meets
      valid.checks free
  in_role (Detached issuer) valid gets free = below_issuer kind.Detached issuer.now gets.0 gets.1 valid.meets
      valid.checks free
  in_role (Router issuer) valid gets free = record {
    cert = c;
    begins = whole_means IsCertificate c octets is;
    under = record { meets = valid.meets; checks = valid.checks; unrevoked = free };
  }

  -- of the kind below the issuer
  pub accepted_below : (k : Kind) (issuer : Option ResourceFields) (role : Role) → IsRoleOf k issuer role →
      IsValidAs x role c → GetsNumbers role c → IsUnrevokedIn asked issuer c →
      IsAcceptedBelow x asked k issuer octets
  accepted_below k issuer role of valid gets free =
      subst (λ (j : Kind). IsAcceptedBelow x asked j issuer octets) of.kind_is
      (subst (λ (above : Option ResourceFields). IsAcceptedBelow x asked (role_kind role) above octets) of.issuer_is
      (in_role role valid gets
      (subst (λ (above : Option ResourceFields). IsUnrevokedIn asked above c) (sym of.issuer_is) free)))

-- ---- a list

for_below : (names : Bool) (issuer : TbsFields) (c : CertFields) (l : CrlState) → IsFor c l →
    (IsTrue names → IsNamedBy issuer l.list) → IsForBelow names issuer c l
for_below false issuer c l is named = is
for_below true issuer c l is named = (is, named refl)

module _ (x : Context) (issuer : TbsFields) (list : CrlFields) (current : IsCurrentList x issuer list) where
  -- the list is the latest that can be asked of the certificate
  latest : (names cached : Bool) (lists : List CrlState) (c : CertFields) →
      let l : CrlState = record { list = list; is_cached = cached } in IsAskedAmong names x lists issuer c l →
      IsLatest (IsEligibleNamed names x.verifies x.now issuer c) c lists l
  latest names cached lists c among =
      let l : CrlState = record { list = list; is_cached = cached } in
      record {
        inside = among.inside;
        has = (
          for_below names issuer c l (among.names_key ∙ ap (λ (k : List ℕ). Some k) (sym current.0))
              among.named,
          current.1.0,
          current.1.1.0.0,
        );
        stays = among.stays;
      }

  pub answers_for : AnswersFor x issuer list
  answers_for = record {
    unrevoked = λ names cached lists c among off.
        let l : CrlState = record { list = list; is_cached = cached } in
        let unit : Unit {0} = tt in
        let answer : Result (Unit {0}) RevocationError = Ok unit in
        answered names x lists issuer c l (latest names cached lists c among) current.0 answer (current.1.1.0.1, off);
    revoked = λ names cached lists c among on.
        let l : CrlState = record { list = list; is_cached = cached } in
        let answer : Result (Unit {0}) RevocationError = Err revocation.Revoked in
        answered names x lists issuer c l (latest names cached lists c among) current.0 answer (current.1.1.0.1, on);
  }
