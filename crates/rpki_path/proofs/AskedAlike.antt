-- Paths that are valid with one who is asked for revocation are so with another one, who leaves the
-- same certificates unrevoked.
use Rattle.std.specs.Prelude.{Option, None, Some}
use Rattle.std.proofs.Common.{◌+◌, ℕ, List}
use Rattle.rpki_cert.specs.Certificates.{TbsFields, CertFields}
use Rattle.rpki_cert.specs.Verification.{Context, ResourceFields}
use Rattle.rpki_keys.specs.Locators.{NamedTal}
use Rattle.rpki_path.specs.Asking.{RevocationChecks, IsUnrevokedBy}
use Rattle.rpki_path.specs.Paths.{Path, Candidate, certificate_at, IsValidPath}
use Rattle.rpki_path.specs.LocatedPaths.{IsAcceptedFrom}
use Rattle.rpki_path.specs.Judging.{IsRouterIfAny}

module _ (x : Context) (asked other : RevocationChecks) (leaves : (issuer : TbsFields) (c : CertFields) →
    IsUnrevokedBy asked issuer c → IsUnrevokedBy other issuer c) where
  valid_too : (p : Path) → IsValidPath x asked p → IsValidPath x other p
  valid_too p h = record {
    anchor_meets = h.anchor_meets;
    members_meet = h.members_meet;
    anchor_verified = h.anchor_verified;
    members_verified = h.members_verified;
    members_unrevoked = λ i low. leaves (certificate_at p i).fields (certificate_at p (i + 1))
        (h.members_unrevoked i low);
  }

  pub accepted_too : (t : NamedTal) (anchor : List ℕ) (below : List Candidate) (r : ResourceFields) →
      IsAcceptedFrom x asked t anchor below r → IsAcceptedFrom x other t anchor below r
  accepted_too t anchor below r h = record {
    path = h.path;
    path_of = h.path_of;
    is_valid = record {
      is_valid = valid_too h.path h.is_valid.is_valid;
      key_is = h.is_valid.key_is;
      lists =
          h.is_valid.lists;
    };
    held = h.held;
  }

  pub router_too : (holder : ResourceFields) (octets : Option (List ℕ)) (c : Option CertFields) →
      IsRouterIfAny x asked holder octets c → IsRouterIfAny x other holder octets c
  router_too holder None None h = tt
  router_too holder None (Some c) h = absurd h
  router_too holder (Some octets) None h = absurd h
  router_too holder (Some octets) (Some c) h = (
    h.0,
    record {
      meets = h.1.meets;
      checks = h.1.checks;
      unrevoked = leaves holder.cert.fields c h.1.unrevoked;
    },
  )
