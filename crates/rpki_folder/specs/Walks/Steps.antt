-- What one step of a walk gives.
use Rattle.std.specs.Prelude.{◌≡◌, ◌≢◌, ◌↔◌, ◌⊎◌, ◌*◌, ◌<◌, Bool, IsTrue, ◌++◌, ◌∷◌, [], ℕ, List, length, map, Contains}
use Rattle.std.specs.Prelude.{Option, None, Some, Result, Ok, Err, IsErr, IfOk}
use Rattle.std.specs.List.{AllByRecursion}
use Rattle.rpki_parts.specs.Signatures.{Verifies}
use Rattle.rpki_cert.specs.Certificates.{CertFields}
use Rattle.rpki_cert.specs.Verification.{Context, ResourceFields, IsSignedBy}
use Rattle.rpki_cert.specs.declared.inspect.Kind.{Kind}
use Rattle.rpki_cert.specs.declared.inspect.Kind.TheVariants.{Authority, Router}
use Rattle.rpki_path.specs.Asking.{RevocationChecks}
use Rattle.rpki_path.specs.declared.judging.Judged.{Judged}
use Rattle.rpki_path.specs.declared.path_fault.PathFault.{PathFault}
use Rattle.rpki_path.specs.declared.path_fault.PathFault.TheVariants.{Memory}
use Rattle.rpki_path.specs.declared.located.LocatedError.{LocatedError}
use Rattle.rpki_path.specs.declared.located.LocatedError.TheVariants.{OtherKey, NoResources, Path as path}
use Rattle.rpki_path.specs.Paths.{Finds}
use Rattle.rpki_path.specs.Paths.Steps.{IsIssuedBy}
use Rattle.rpki_path.specs.Judging.{IsRouterIfAny}
use Rattle.rpki_path.specs.NameChains.{IsNamedBelow}
use Rattle.rpki_cert.specs.SaidKinds.{BeginsWithKind}
use Rattle.rpki_folder.specs.declared.bounds.Ended.{Ended}
use Rattle.rpki_folder.specs.declared.bounds.Ended.TheVariants.{TooDeep, OutOfSteps}
use Rattle.rpki_folder.specs.declared.walk.Below.{Below}
use Rattle.rpki_folder.specs.declared.walk.Ca.{Ca}
use Rattle.rpki_folder.specs.declared.children.Claim.{Claim}
use Rattle.rpki_folder.specs.declared.children.Claim.TheVariants.{OtherName, Child, Other}
use Rattle.rpki_folder.specs.Folders.{string_at, IsOnce}
use Rattle.rpki_folder.specs.Walks.{Root, members_at, LeadsTo, Told, told_at, demand_as, StandsAt, IsNamedUnder}
use Rattle.rpki_folder.specs.Walks.{IsChildOf, IsRight, IsLetIn, AreFew, IsShort, IsTooDeep, IsComplete}
use Rattle.rpki_folder.specs.Walks.{IsCompleteInShares, IsJudgedInShares, IsEnough}

-- what is answered of octets that are judged as this kind below the issuer
abbrev pub IsAnswer : Context → RevocationChecks → ResourceFields → List ℕ → Kind
    → Result Judged PathFault → Type 0
IsAnswer x asked issuer octets Router (Ok j) =
    (j.holder ≡ issuer) × IsRouterIfAny x asked issuer (Some octets) j.router
IsAnswer x asked issuer octets kind (Ok j) =
    IsIssuedBy x asked issuer kind octets j.holder × (j.router ≡ None)
IsAnswer x asked issuer octets kind (Err e) =
    (e ≢ Memory) × Finds x (demand_as x asked issuer kind) octets e

-- what is handed on of the answer: the member, where it is accepted
abbrev pub Hands : Result Judged PathFault → Option ResourceFields → Type 0
Hands verdict (Some r) = verdict ≡ Ok (record { holder = r; router = None })
Hands verdict None = IsErr verdict

-- the walk goes on below a CA that is accepted, and below nothing else
abbrev pub GoesOn : Kind → Result Judged PathFault → Option ResourceFields → Type 0
GoesOn kind verdict (Some ca) =
    (kind ≡ Authority) × (verdict ≡ Ok (record { holder = ca; router = None }))
GoesOn kind verdict None = kind ≡ Authority → IsErr verdict

-- the error says what was answered of the trust anchor
abbrev pub IsAtTop : {T : Type 0} → LocatedError → Result T PathFault → Type 0
IsAtTop OtherKey answer = ⊥
IsAtTop NoResources answer = ⊥
IsAtTop (path e) answer = (e.index ≡ 0) × (answer ≡ Err e.fault)

-- the verdict on octets below the issuer, and where the walk goes on
pub record IsOutcome (x : Context) (asked : RevocationChecks) (issuer : ResourceFields)
    (octets : List ℕ) (verdict : Result Judged PathFault)
    (next : Option ResourceFields) : Type 0 where
  pub kind : Kind
  pub says : BeginsWithKind kind octets
  pub answer : IsAnswer x asked issuer octets kind verdict
  pub goes_on : GoesOn kind verdict next

-- ---- the children of an issuer

-- what a certificate that names the issuer's key is to the issuer
abbrev pub ClaimIs : Bool → Verifies → CertFields → CertFields → Claim → Type 0
ClaimIs names verifies issuer c OtherName = IsTrue names × (IsNamedBelow issuer c → ⊥)
ClaimIs names verifies issuer c Child =
    (IsTrue names → IsNamedBelow issuer c) × IsSignedBy verifies issuer.fields.key c.signed_data
    × (c.fields.algorithm ≡ c.signed_data.signature.algorithm)
ClaimIs names verifies issuer c (Other signed) =
    (IsTrue names → IsNamedBelow issuer c)
    × (IsTrue signed ↔ IsSignedBy verifies issuer.fields.key c.signed_data)
    × (IsSignedBy verifies issuer.fields.key c.signed_data
    → c.fields.algorithm ≡ c.signed_data.signature.algorithm → ⊥)

-- the same, of the certificate at the place
abbrev pub IsClaim : Bool → Verifies → CertFields → List (List ℕ) → ℕ → Claim → Type 0
IsClaim names verifies issuer certs place claim =
    (c : CertFields) × StandsAt certs place c × ClaimIs names verifies issuer c claim

-- the certificate at the place is let in below the issuer, and has its name, if names are asked; but
-- it is no child of the issuer
abbrev pub IsOther : Verifies → Bool → (List ℕ → ℕ → Type 0) → CertFields → List (List ℕ) → List ℕ
    → ℕ → Type 0
IsOther verifies names admits issuer certs above place =
    (admits above place × IsNamedUnder names issuer certs place)
    × (IsChildOf verifies issuer certs place → ⊥)

-- the place was added to these, if the certificate there is a child of the issuer, and has its name if
-- names are asked
abbrev pub IsChildAdded : Bool → Verifies → CertFields → List (List ℕ) → ℕ → List ℕ → List ℕ → Type 0
IsChildAdded names verifies issuer certs place old new =
    ((new ≡ old ++ place ∷ []) × IsNamedUnder names issuer certs place
    × IsChildOf verifies issuer certs place)
    ⊎ ((new ≡ old) × (IsNamedUnder names issuer certs place → IsChildOf verifies issuer certs place → ⊥))

-- of the certificates at these places, these are the children of the issuer that are let in, each once
pub record AreChildrenAmong (verifies : Verifies) (lets_in : ℕ → Type 0) (issuer : CertFields)
    (certs : List (List ℕ)) (places children : List ℕ) : Type 0 where
  pub from : (place : ℕ) → Contains children place → Contains places place
  pub only : (place : ℕ) → Contains children place
      → lets_in place × IsChildOf verifies issuer certs place
  pub all : (place : ℕ) → Contains places place → lets_in place
      → IsChildOf verifies issuer certs place → Contains children place
  pub once : IsOnce children

-- these are the places at which a walk looks below the issuer and finds a child of it, each once
pub record AreLookedAt (verifies : Verifies) (looks : ℕ → Type 0) (issuer : CertFields)
    (certs : List (List ℕ)) (children : List ℕ) : Type 0 where
  pub only : (place : ℕ) → Contains children place
      → looks place × IsChildOf verifies issuer certs place
  pub all : (place : ℕ) → looks place → IsChildOf verifies issuer certs place
      → Contains children place
  pub once : IsOnce children

-- the children below an issuer: none, or these and at least one
abbrev pub AreBelow : Verifies → (ℕ → Type 0) → CertFields → List (List ℕ) → Option Below → Type 0
AreBelow verifies looks issuer certs None = AreLookedAt verifies looks issuer certs []
AreBelow verifies looks issuer certs (Some below) =
    (0 < length below.children.items) × AreLookedAt verifies looks issuer certs below.children.items

-- a walk looks at the place, and finds no child of the issuer
abbrev pub IsNoChild : Verifies → (ℕ → Type 0) → CertFields → List (List ℕ) → ℕ → Type 0
IsNoChild verifies looks issuer certs place =
    looks place × (IsChildOf verifies issuer certs place → ⊥)

-- the verdict is on the certificate at a place that has P, below the CAs at the places above, and is
-- the answer below the issuer
abbrev pub IsToldOf : Context → RevocationChecks → ResourceFields → List (List ℕ) → List ℕ
    → (ℕ → Type 0) → Told → Type 0
IsToldOf x asked issuer certs above P t =
    (t.above ≡ above) × P t.place
    × ((next : Option ResourceFields)
    × IsOutcome x asked issuer (string_at certs t.place) t.verdict next)

-- the places of CAs
abbrev pub places_of : List Ca → List ℕ
places_of cas = map (λ (ca : Ca). ca.place) cas

-- the verdict on the certificate at the place was told; and if it is an accepted CA, it is one of
-- these
abbrev pub HasVerdict : Context → RevocationChecks → ResourceFields → List (List ℕ) → List ℕ
    → List Ca → List Told → ℕ → Type 0
HasVerdict x asked issuer certs above cas ts place =
    (verdict : Result Judged PathFault) × (next : Option ResourceFields)
    × IsOutcome x asked issuer (string_at certs place) verdict next
    × Contains ts (told_at above place verdict)
    × ((holder : ResourceFields) → next ≡ Some holder → Contains (places_of cas) place)

-- what was told of the children at these places; and the CAs that are accepted among them
pub record AreJudged (x : Context) (asked : RevocationChecks) (issuer : ResourceFields)
    (certs : List (List ℕ)) (above places : List ℕ) (cas : List Ca) (ts : List Told) : Type 0 where
  pub all : (place : ℕ) → Contains places place
      → HasVerdict x asked issuer certs above cas ts place
  pub only : (ca : Ca) → Contains cas ca → Contains places ca.place
      × ((verdict : Result Judged PathFault)
      × IsOutcome x asked issuer (string_at certs ca.place) verdict (Some ca.holder))
  pub once : IsOnce (places_of cas)

-- ---- below CAs

-- the places above, with that of the CA
abbrev pub down_to : List ℕ → Ca → List ℕ
down_to above ca = above ++ ca.place ∷ []

-- what a walk tells below each of these CAs, which stand below the places above and each of which has
-- this share
pub record TellsBelowEach {E : Type 0} (x : Context) (asked : RevocationChecks)
    (admits : List ℕ → ℕ → Type 0) (root : Root) (certs : List (List ℕ)) (above : List ℕ)
    (depth share : ℕ) (cas : List Ca) (result : Result Ended E) (ts : List Told) : Type 0 where
  pub right : AllByRecursion (IsRight x asked root certs) ts
  pub let_in : AllByRecursion (λ t.
      (ca : Ca) × Contains cas ca × IsLetIn admits (down_to above ca) t) ts
  pub few : AreFew x asked root certs (length cas * share) ts
  pub short : IfOk result (λ ended. ended ≡ OutOfSteps
      → (ca : Ca) × Contains cas ca × IsShort x asked admits root certs (down_to above ca) share)
  pub too_deep : IfOk result (λ ended. ended ≡ TooDeep → (ca : Ca) × Contains cas ca
      × IsTooDeep x asked admits root certs (down_to above ca) depth ended)
  pub complete : IfOk result (λ ended. (ca : Ca) → Contains cas ca
      → IsComplete x asked admits root certs (down_to above ca) depth ts ended)
  pub in_shares : IfOk result (λ ended. (ca : Ca) → Contains cas ca
      → IsCompleteInShares x asked admits root certs (down_to above ca) depth share ts)
  pub judged : IfOk result (λ ended. (ca : Ca) → Contains cas ca
      → IsJudgedInShares x asked admits root certs (down_to above ca) depth share ts)
  pub enough : IfOk result (λ ended. (ca : Ca) → Contains cas ca
      → IsEnough x asked admits root certs (down_to above ca) depth share ended)

-- the same, wherever they stand at the end of valid paths
abbrev pub WalksBelowEach : {E : Type 0} → Context → RevocationChecks → (List ℕ → ℕ → Type 0)
    → List (List ℕ) → List ℕ → ℕ → ℕ → List Ca → Result Ended E → List Told → Type 0
WalksBelowEach x asked admits certs above depth share cas result ts =
    (root : Root)
    → ((ca : Ca) → Contains cas ca
    → LeadsTo x asked root (members_at root certs (down_to above ca)) ca.holder)
    → TellsBelowEach x asked admits root certs above depth share cas result ts
