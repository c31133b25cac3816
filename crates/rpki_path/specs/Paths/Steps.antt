-- What one step down a path gives.
use Rattle.std.specs.Prelude.{ℕ, List, ◌≢◌}
use Rattle.rpki_der.specs.declared.error.DecodeError.TheVariants as decoding
use Rattle.rpki_ext.specs.Kinds.{Means}
use Rattle.rpki_cert.specs.Certificates.{CertFields, IsCertificate}
use Rattle.rpki_cert.specs.Validation.{IsValidTrustAnchor, IsValidBelow}
use Rattle.rpki_cert.specs.Verification.{Context, CheckUnder, issued_checks, ResourceFields}
use Rattle.rpki_cert.specs.declared.inspect.Kind.{Kind}
use Rattle.rpki_cert.specs.declared.inspect.Kind.TheVariants.{Authority, EndEntity, Detached}
use Rattle.rpki_path.specs.Asking.{RevocationChecks, IsUnrevokedBy}
use Rattle.rpki_path.specs.declared.path_fault.PathFault.{PathFault}
use Rattle.rpki_path.specs.declared.path_fault.PathFault.TheVariants.{Decode, Memory}
use Rattle.rpki_path.specs.declared.validator.Role.{Role}
use Rattle.rpki_path.specs.declared.validator.Role.TheVariants as role
use Rattle.rpki_path.specs.Paths.{Demand}

-- the kind of a member below the trust anchor
abbrev pub kind_of : Role → Kind
kind_of role.Authority = Authority
kind_of role.EndEntity = EndEntity
kind_of role.Detached = Detached

-- why no certificate is decoded
abbrev pub IsUnread : List ℕ → PathFault → Type 0
IsUnread octets (Decode e) =
    (e ≢ decoding.Memory) × ((c : CertFields) → Means IsCertificate c octets → ⊥)
IsUnread octets Memory = Unit {0}
IsUnread octets _ = ⊥

-- the trust anchor of a path, with what it lists
pub record IsTrustAnchor (x : Context) (octets tal : List ℕ) (r : ResourceFields) : Type 0 where
  pub begins : Means IsCertificate r.cert octets
  pub valid : IsValidTrustAnchor x tal r.cert r

-- a member that stands below the issuer, and that who is asked doesn't revoke
pub record IsIssuedBy (x : Context) (asked : RevocationChecks) (issuer : ResourceFields)
    (k : Kind) (octets : List ℕ) (r : ResourceFields) : Type 0 where
  pub begins : Means IsCertificate r.cert octets
  pub below : IsValidBelow x issuer k r.cert r
  pub unrevoked : IsUnrevokedBy asked issuer.cert.fields r.cert

-- what is asked of a member of this kind below the issuer
abbrev pub demand_under : Context → RevocationChecks → ResourceFields → Kind → Demand
demand_under x asked issuer kind = record {
  kind = kind;
  check = CheckUnder x issuer;
  checks = issued_checks;
  asked_check = asked issuer.cert.fields;
}
