-- Routers' certificates below the last member of a path (RFC 8209 3.3).
use Rattle.std.specs.Prelude.{ℕ, List, Option, Some, None}
use Rattle.rpki_ext.specs.Kinds.{Means}
use Rattle.rpki_cert.specs.Certificates.{CertFields, IsCertificate}
use Rattle.rpki_cert.specs.Profiles.{MeetsProfile}
use Rattle.rpki_cert.specs.Verification.{Context, ResourceFields, CheckUnder, IsVerified, router_checks}
use Rattle.rpki_cert.specs.declared.inspect.Kind.TheVariants.{Router}
use Rattle.rpki_crl.specs.Stores.{Stored}
use Rattle.rpki_path.specs.Asking.{RevocationChecks, nobody, by_uri, IsUnrevokedBy}
use Rattle.rpki_path.specs.Paths.{Demand}

-- a router's certificate that is valid below the issuer, and unrevoked there by who is asked
pub record IsRouterUnder (x : Context) (asked : RevocationChecks)
    (issuer : ResourceFields) (c : CertFields) : Type 0 where
  pub meets : MeetsProfile Router x.strict c
  pub checks : IsVerified (CheckUnder x issuer c) router_checks
  pub unrevoked : IsUnrevokedBy asked issuer.cert.fields c

-- the octets begin with one; what follows it is ignored
pub record BeginsWithRouter (x : Context) (asked : RevocationChecks)
    (issuer : ResourceFields) (octets : List ℕ) : Type 0 where
  pub cert : CertFields
  pub begins : Means IsCertificate cert octets
  pub under : IsRouterUnder x asked issuer cert

-- what is asked of a router's certificate below the issuer
abbrev pub router_demand : Context → RevocationChecks → ResourceFields → Demand
router_demand x asked issuer = record {
  kind = Router;
  check = CheckUnder x issuer;
  checks = router_checks;
  asked_check = asked issuer.cert.fields;
}

-- the lists of a store are asked by URI, where there is a store; else nobody is
abbrev pub by_uri_if_any : Context → Option (List Stored) → RevocationChecks
by_uri_if_any x None = nobody
by_uri_if_any x (Some pairs) = by_uri x pairs
