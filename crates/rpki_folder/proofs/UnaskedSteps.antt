-- What holds of a certificate for which nobody was asked, and of it once lists were asked.
use Rattle.std.proofs.Common.{ℕ, List}
use Rattle.rpki_ext.specs.Kinds.{Means}
use Rattle.rpki_parts.specs.Conditions.{IsFirstFalse}
use Rattle.rpki_cert.specs.Certificates.{CertFields, IsCertificate}
use Rattle.rpki_cert.specs.Verification.{Context, ResourceFields}
use Rattle.rpki_cert.specs.declared.inspect.Kind.{Kind}
use Rattle.rpki_crl.specs.Revocation.{revocation_checks}
use Rattle.rpki_crl.specs.declared.revocation_error.RevocationError.{RevocationError}
use Rattle.rpki_path.specs.Asking.{RevocationChecks, nobody, IsUnrevokedBy}
use Rattle.rpki_path.specs.declared.path_fault.PathFault.TheVariants.{Revocation}
use Rattle.rpki_path.specs.Paths.{Finds}
use Rattle.rpki_path.specs.Paths.Steps.{IsIssuedBy, demand_under}
use Rattle.rpki_path.specs.Routers.{IsRouterUnder, router_demand}
use Rattle.rpki_folder.specs.IssuerLists.{IsBelow}
use Rattle.rpki_folder.proofs.PathsDown.{some_is}

module _ (x : Context) (asked : RevocationChecks) (issuer : ResourceFields) (octets : List ℕ) where
  -- ---- a member

  module _ (k : Kind) where
    module _ (r : ResourceFields) (is : IsIssuedBy x nobody issuer k octets r) where
      pub names_issuer : IsBelow issuer.cert.fields r.cert
      names_issuer =
          some_is r.cert.fields.extensions.authority_key_identifier
          issuer.cert.fields.extensions.subject_key_identifier is.below.checks.1.1.0 is.below.checks.1.1.1.0

      pub not_revoked : IsUnrevokedBy asked issuer.cert.fields r.cert → IsIssuedBy x asked issuer k octets r
      not_revoked free = record { begins = is.begins; below = is.below; unrevoked = free }

      pub is_revoked : (e : RevocationError) → IsFirstFalse (asked issuer.cert.fields r.cert) revocation_checks e →
          Finds x (demand_under x asked issuer k) octets (Revocation e)
      is_revoked e first = record {
        cert = r.cert;
        begins = is.begins;
        meets = is.below.meets;
        verified =
            is.below.checks;
        first = first;
      }

  -- ---- a router

  module _ (c : CertFields) (is : IsRouterUnder x nobody issuer c) where
    pub router_names_issuer : IsBelow issuer.cert.fields c
    router_names_issuer = some_is c.fields.extensions.authority_key_identifier
        issuer.cert.fields.extensions.subject_key_identifier is.checks.1.1.0 is.checks.1.1.1.0

    pub router_not_revoked : IsUnrevokedBy asked issuer.cert.fields c → IsRouterUnder x asked issuer c
    router_not_revoked free = record { meets = is.meets; checks = is.checks; unrevoked = free }

    pub router_is_revoked : Means IsCertificate c octets → (e : RevocationError) →
        IsFirstFalse (asked issuer.cert.fields c) revocation_checks e →
        Finds x (router_demand x asked issuer) octets (Revocation e)
    router_is_revoked begins e first =
        record { cert = c; begins = begins; meets = is.meets; verified = is.checks; first = first }
