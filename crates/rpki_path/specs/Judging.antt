-- The verdict on a path, below whose CAs an end entity or a router may stand (RFC 6487 7.2, RFC
-- 8209 3.3).
use Rattle.std.specs.Prelude.{◌≡◌, ◌⊎◌, ◌+◌, ℕ, List, [], length, Option, Some, None, Result, Ok, Err}
use Rattle.rpki_ext.specs.Kinds.{Means}
use Rattle.rpki_cert.specs.Certificates.{CertFields, IsCertificate}
use Rattle.rpki_cert.specs.Verification.{Context, ResourceFields}
use Rattle.rpki_parts.specs.Keys.{KeyFields}
use Rattle.rpki_path.specs.Asking.{RevocationChecks}
use Rattle.rpki_path.specs.declared.judging.Judged.{Judged}
use Rattle.rpki_path.specs.declared.path_fault.PathError.{PathError}
use Rattle.rpki_path.specs.GivenPaths.{PathStrings}
use Rattle.rpki_path.specs.Paths.{IsAccepted, UnlessMemory, IsFault, Finds}
use Rattle.rpki_path.specs.Routers.{IsRouterUnder, router_demand}

-- the certificate is that of a router, which is valid below the holder; where no router is asked
-- about, there is none
abbrev pub IsRouterIfAny : Context → RevocationChecks → ResourceFields
    → Option (List ℕ) → Option CertFields → Type 0
IsRouterIfAny x asked holder None None = Unit {0}
IsRouterIfAny x asked holder (Some octets) (Some c) =
    Means IsCertificate c octets × IsRouterUnder x asked holder c
IsRouterIfAny x asked holder _ _ = ⊥

-- the members are a valid path of which the last holds these numbers, and the router, where there
-- is one, is valid below it
pub record IsAcceptedWith (x : Context) (asked : RevocationChecks)
    (g : PathStrings) (j : Judged) : Type 0 where
  pub accepted : IsAccepted x asked g.anchor g.below [] j.holder
  pub router : IsRouterIfAny x asked j.holder g.router j.router

-- there is no answer with which they are accepted
abbrev pub IsNotAccepted : Context → RevocationChecks → PathStrings → Type 0
IsNotAccepted x asked g = (j : Judged) → IsAcceptedWith x asked g j → ⊥

-- the members are a valid path, and this is what is wrong of the router, which stands below the
-- last
pub record IsFaultOfRouter (x : Context) (asked : RevocationChecks)
    (g : PathStrings) (e : PathError) : Type 0 where
  pub octets : List ℕ
  pub router_is : g.router ≡ Some octets
  pub issuer : ResourceFields
  pub accepted : IsAccepted x asked g.anchor g.below [] issuer
  pub index_is : e.index ≡ length g.below + 1
  pub fault_is : Finds x (router_demand x asked issuer) octets e.fault

-- the error says what is wrong of the string at its index; those above it are a valid path
abbrev pub IsFaultOf : Context → RevocationChecks → PathStrings → PathError → Type 0
IsFaultOf x asked g e = IsFault x asked g.anchor g.below e ⊎ IsFaultOfRouter x asked g e

-- Ok exactly where the path is accepted, with what its last member holds; an error says what is
-- wrong of the string at its index; or it ran out of memory
abbrev pub Judges : Context → RevocationChecks → PathStrings → Result Judged PathError → Type 0
Judges x asked g (Ok j) = IsAcceptedWith x asked g j
Judges x asked g (Err e) = UnlessMemory e.fault (IsNotAccepted x asked g × IsFaultOf x asked g e)

-- ---- the last key

-- the certificate of the last member: the router's, where it is one
abbrev pub last_certificate : ResourceFields → Option CertFields → CertFields
last_certificate holder None = holder.cert
last_certificate holder (Some router) = router

-- the key that the last member signs with
abbrev pub last_key : Judged → KeyFields
last_key j = (last_certificate j.holder j.router).fields.key
