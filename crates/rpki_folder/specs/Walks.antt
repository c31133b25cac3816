-- Walks down through a folder: to which certificates a valid path leads, and what is told of them
-- (RFC 6487 7.2, RFC 8630 3; own: the bounds).
use Rattle.std.specs.Prelude.{◌≡◌, ◌≢◌, ◌⊎◌, ◌+◌, ◌-◌, ◌/◌, ◌<◌, ◌≤◌, ℕ, Bool, List, [], ◌∷◌, ◌++◌, length, Any}
use Rattle.std.specs.Prelude.{Contains, None, Some, Result, Ok, Err, IsOk, IfOk, IsTrue}
use Rattle.std.specs.List.{AllByRecursion}
use Rattle.rpki_ext.specs.Kinds.{Means}
use Rattle.rpki_cert.specs.Certificates.{CertFields, IsCertificate}
use Rattle.rpki_parts.specs.Signatures.{Verifies}
use Rattle.rpki_cert.specs.Verification.{Context, ResourceFields, IsSignedBy}
use Rattle.rpki_cert.specs.declared.inspect.Kind.{Kind}
use Rattle.rpki_cert.specs.declared.inspect.Kind.TheVariants.{Router}
use Rattle.rpki_path.specs.Asking.{RevocationChecks}
use Rattle.rpki_keys.specs.Locators.{NamedTal}
use Rattle.rpki_path.specs.declared.judging.Judged.{Judged}
use Rattle.rpki_path.specs.declared.located.LocatedError.{LocatedError}
use Rattle.rpki_path.specs.declared.path_fault.PathFault.{PathFault}
use Rattle.rpki_path.specs.declared.path_fault.PathFault.TheVariants.{Memory}
use Rattle.rpki_path.specs.Paths.{Candidate, candidate, Demand, Finds, IsPathOf, Path}
use Rattle.rpki_path.specs.Paths.Steps.{demand_under}
use Rattle.rpki_path.specs.Routers.{router_demand}
use Rattle.rpki_path.specs.Judging.{IsRouterIfAny}
use Rattle.rpki_path.specs.NameChains.{IsNamedBelow, IsSelfNamed, NamesChain}
use Rattle.rpki_path.specs.Repeats.{AreOneEntity}
use Rattle.rpki_path.specs.LocatedPaths.{IsAcceptedFrom, IsLocatedFault, IsOutOfMemory, IsValidFrom}
use Rattle.rpki_cert.specs.SaidKinds.{BeginsWithKind}
use Rattle.rpki_folder.specs.Folders.{string_at, cas_at, NamesSigner, IsOnce}
use Rattle.rpki_folder.specs.IssuerLists.{ArePicked}
use Rattle.rpki_folder.specs.declared.bounds.Ended.{Ended}
use Rattle.rpki_folder.specs.declared.bounds.Ended.TheVariants.{Whole, TooDeep, OutOfSteps}
use Rattle.rpki_folder.specs.declared.walk_error.WalkError.{WalkError}
use Rattle.rpki_folder.specs.declared.walk_error.WalkError.TheVariants.{Anchor, OtherName, Memory as memory}
pub mod Steps

-- ---- paths through a folder

-- where a walk begins: a locator, the octets of its trust anchor, and the members between that and
-- the certificates of the folder
pub record Root : Type 0 where
  pub tal : NamedTal
  pub anchor : List ℕ
  pub before : List Candidate

-- at the trust anchor itself
abbrev pub at_anchor : NamedTal → List ℕ → Root
at_anchor tal anchor = record { tal = tal; anchor = anchor; before = [] }

-- the members below the trust anchor down to the CAs at these places
abbrev pub members_at : Root → List (List ℕ) → List ℕ → List Candidate
members_at root certs above = root.before ++ cas_at certs above

-- a valid path of these members leads from the locator's key to what its last member holds
abbrev pub LeadsTo : Context → RevocationChecks → Root → List Candidate → ResourceFields → Type 0
LeadsTo x asked root members r = IsAcceptedFrom x asked root.tal root.anchor members r

-- the locator's trust anchor begins with a certificate of its key that is valid and lists a number,
-- and whose two names are one, if names are asked
abbrev pub IsValidAnchor : Context → RevocationChecks → Bool → NamedTal → List ℕ → Type 0
IsValidAnchor x asked names tal anchor =
    (r : ResourceFields) × LeadsTo x asked (at_anchor tal anchor) [] r
    × (IsTrue names → IsSelfNamed r.cert)

-- below these members the octets are accepted as a certificate of this kind: a router's below the
-- last of them, any other one as a further member
abbrev pub IsAcceptedAs : Context → RevocationChecks → Root → List Candidate → Kind → List ℕ
    → Judged → Type 0
IsAcceptedAs x asked root members Router octets j =
    LeadsTo x asked root members j.holder × IsRouterIfAny x asked j.holder (Some octets) j.router
IsAcceptedAs x asked root members kind octets j =
    LeadsTo x asked root (members ++ candidate kind octets ∷ []) j.holder × (j.router ≡ None)

-- a valid path leads, by the CAs at these places, to the certificate at the place, as what that
-- says that it is
abbrev pub IsReached : Context → RevocationChecks → Root → List (List ℕ) → List ℕ → ℕ → Type 0
IsReached x asked root certs above place =
    (kind : Kind) × (j : Judged) × BeginsWithKind kind (string_at certs place)
    × IsAcceptedAs x asked root (members_at root certs above) kind (string_at certs place) j

-- a valid path from the locator's trust anchor, with these octets, leads by the CAs at these places to
-- the certificate at the place, as one of this kind, and its names chain, if they are asked
pub record LeadsBy (x : Context) (asked : RevocationChecks) (names : Bool) (t : NamedTal)
    (anchor : List ℕ) (certs : List (List ℕ)) (kind : Kind) (place : ℕ)
    (above : List ℕ) : Type 0 where
  pub path : Path
  pub path_of : IsPathOf anchor (cas_at certs above ++ candidate kind (string_at certs place) ∷ [])
      path
  pub is_valid : IsValidFrom x asked t.tal path
  pub chained : IsTrue names → NamesChain path

-- ---- what is told

-- the verdict on a certificate: the places of the CAs above it, from the top down, its place, and
-- what holds of it or is wrong with it
pub record Told : Type 0 where
  pub above : List ℕ
  pub place : ℕ
  pub verdict : Result Judged PathFault

abbrev pub told_at : List ℕ → ℕ → Result Judged PathFault → Told
told_at above place verdict = record { above = above; place = place; verdict = verdict }

-- what is asked of a certificate of this kind below an issuer
abbrev pub demand_as : Context → RevocationChecks → ResourceFields → Kind → Demand
demand_as x asked issuer Router = router_demand x asked issuer
demand_as x asked issuer kind = demand_under x asked issuer kind

-- the verdict on octets below these members is right: they are accepted as what they say that they
-- are; or the members are a valid path, and this is what is wrong with them
abbrev pub IsRightOf : Context → RevocationChecks → Root → List Candidate → List ℕ
    → Result Judged PathFault → Type 0
IsRightOf x asked root members octets (Ok j) =
    (kind : Kind) × BeginsWithKind kind octets × IsAcceptedAs x asked root members kind octets j
IsRightOf x asked root members octets (Err e) =
    (e ≢ Memory) × ((kind : Kind) × (issuer : ResourceFields) × BeginsWithKind kind octets
    × LeadsTo x asked root members issuer × Finds x (demand_as x asked issuer kind) octets e)

abbrev pub IsRight : Context → RevocationChecks → Root → List (List ℕ) → Told → Type 0
IsRight x asked root certs t =
    IsRightOf x asked root (members_at root certs t.above) (string_at certs t.place) t.verdict

-- among what was told the certificate at the place was accepted below the CAs at these places
abbrev pub IsTold : List Told → List ℕ → ℕ → Type 0
IsTold ts above place = Any (λ t. (t.above ≡ above) × (t.place ≡ place) × IsOk t.verdict) ts

-- among what was told is a verdict on the certificate at the place below the CAs at these places
abbrev pub IsVerdictTold : List Told → List ℕ → ℕ → Type 0
IsVerdictTold ts above place = Any (λ t. (t.above ≡ above) × (t.place ≡ place)) ts

-- ---- what is looked at

-- the octets at the place begin with this certificate
abbrev pub StandsAt : List (List ℕ) → ℕ → CertFields → Type 0
StandsAt certs place c = Means IsCertificate c (string_at certs place)

-- it is the certificate below which a walk begins, or one of those at these places
abbrev pub IsAmong : CertFields → List (List ℕ) → List ℕ → CertFields → Type 0
IsAmong top certs places c =
    (c ≡ top) ⊎ ((place : ℕ) × Contains places place × StandsAt certs place c)

-- it is the last of those at these places; where there is none, the one below which the walk begins
abbrev pub IsLastOf : CertFields → List (List ℕ) → List ℕ → CertFields → Type 0
IsLastOf top certs [] c = c ≡ top
IsLastOf top certs (place ∷ []) c = StandsAt certs place c
IsLastOf top certs (place ∷ next ∷ more) c = IsLastOf top certs (next ∷ more) c

-- if names are asked, the issuer of the certificate at the place is the subject of this one
abbrev pub IsNamedUnder : Bool → CertFields → List (List ℕ) → ℕ → Type 0
IsNamedUnder names issuer certs place =
    IsTrue names → (c : CertFields) → StandsAt certs place c → IsNamedBelow issuer c

-- the certificate is of one entity with the one below which the walk begins, or with one of those at
-- these places
abbrev pub IsRepeated : Bool → CertFields → List (List ℕ) → List ℕ → CertFields → Type 0
IsRepeated names top certs places c =
    (d : CertFields) × IsAmong top certs places d × AreOneEntity names d c

-- the last of the CAs at these places is of no entity that stands above it
abbrev pub EndsNoCircle : Bool → CertFields → List (List ℕ) → List ℕ → Type 0
EndsNoCircle names top certs above =
    (before : List ℕ) (place : ℕ) → above ≡ before ++ place ∷ [] → (c : CertFields)
    → StandsAt certs place c → IsRepeated names top certs before c → ⊥

-- Below the CAs at these places a walk that began below this certificate looks at the certificate at
-- the place: it is let in there; its issuer's name is that of the CA, if names are asked (RFC 5280
-- 6.1.3 (a) (4)); and that CA is of no entity that stands above it, so that no path goes in a circle
pub record IsLookedAt (names : Bool) (admits : List ℕ → ℕ → Type 0) (top : CertFields)
    (certs : List (List ℕ)) (above : List ℕ) (place : ℕ) : Type 0 where
  pub admitted : admits above place
  pub named : (issuer : CertFields) → IsLastOf top certs above issuer
      → IsNamedUnder names issuer certs place
  pub no_circle : EndsNoCircle names top certs above

-- ---- how far

-- of two ends the one that looked at less
abbrev pub worse : Ended → Ended → Ended
worse OutOfSteps e = OutOfSteps
worse TooDeep OutOfSteps = OutOfSteps
worse TooDeep e = TooDeep
worse Whole e = e

-- a walk of this depth that ended so has looked at paths of this length
abbrev pub Covers : Ended → ℕ → ℕ → Type 0
Covers Whole depth n = Unit {0}
Covers TooDeep depth n = n ≤ depth
Covers OutOfSteps depth n = ⊥

-- each of the places is let in below those above it
abbrev pub AreAdmitted : (List ℕ → ℕ → Type 0) → List ℕ → List ℕ → Type 0
AreAdmitted admits above [] = Unit {0}
AreAdmitted admits above (place ∷ places) =
    admits above place × AreAdmitted admits (above ++ place ∷ []) places

-- ---- shares

-- The certificate at the place is a child of the issuer: it names the issuer's key as the one that
-- signs it, that key signed it, and the algorithm inside of what is signed is the one outside (RFC
-- 5280 4.1.1.2)
pub record IsChildOf (verifies : Verifies) (issuer : CertFields) (certs : List (List ℕ))
    (place : ℕ) : Type 0 where
  pub cert : CertFields
  pub stands : StandsAt certs place cert
  pub names_key : cert.fields.extensions.authority_key_identifier
      ≡ Some issuer.fields.extensions.subject_key_identifier
  pub signed : IsSignedBy verifies issuer.fields.key cert.signed_data
  pub one_algorithm : cert.fields.algorithm ≡ cert.signed_data.signature.algorithm

-- a valid path leads to the last of the CAs at these places, and these are the places of its children
-- that are let in below them, each once
pub record AreChildren (x : Context) (asked : RevocationChecks) (admits : List ℕ → ℕ → Type 0)
    (root : Root) (certs : List (List ℕ)) (above places : List ℕ) : Type 0 where
  pub issuer : ResourceFields
  pub leads : LeadsTo x asked root (members_at root certs above) issuer
  pub only : (place : ℕ) → Contains places place
      → admits above place × IsChildOf x.verifies issuer.cert certs place
  pub all : (place : ℕ) → admits above place → IsChildOf x.verifies issuer.cert certs place
      → Contains places place
  pub once : IsOnce places

-- a valid path leads to the CA at the place, below the CAs at these places
abbrev pub IsAcceptedCa : Context → RevocationChecks → Root → List (List ℕ) → List ℕ → ℕ → Type 0
IsAcceptedCa x asked root certs above place =
    (r : ResourceFields) × LeadsTo x asked root (members_at root certs (above ++ place ∷ [])) r

-- these are the places of the CAs that are let in below those at the places above and accepted there,
-- each once
pub record AreAcceptedCas (x : Context) (asked : RevocationChecks) (admits : List ℕ → ℕ → Type 0)
    (root : Root) (certs : List (List ℕ)) (above places : List ℕ) : Type 0 where
  pub only : (place : ℕ) → Contains places place
      → admits above place × IsAcceptedCa x asked root certs above place
  pub all : (place : ℕ) → admits above place → IsAcceptedCa x asked root certs above place
      → Contains places place
  pub once : IsOnce places

-- The share of the CAs at these places is enough for their children, and each of the CAs that are
-- accepted below them has this one: what is left, divided evenly and rounded down. What is left over
-- nobody has
pub record IsHandedDown (x : Context) (asked : RevocationChecks) (admits : List ℕ → ℕ → Type 0)
    (root : Root) (certs : List (List ℕ)) (above : List ℕ) (share next : ℕ) : Type 0 where
  pub children : List ℕ
  pub are_children : AreChildren x asked admits root certs above children
  pub enough : length children ≤ share
  pub cas : List ℕ
  pub are_cas : AreAcceptedCas x asked admits root certs above cas
  pub next_is : next ≡ (share - length children) / length cas

-- where the CAs at the places above have the first share, those at the places between have the last
-- one, below them
abbrev pub HasShare : Context → RevocationChecks → (List ℕ → ℕ → Type 0) → Root → List (List ℕ)
    → List ℕ → ℕ → List ℕ → ℕ → Type 0
HasShare x asked admits root certs above share [] last = last ≡ share
HasShare x asked admits root certs above share (place ∷ between) last =
    (next : ℕ) × IsHandedDown x asked admits root certs above share next
    × HasShare x asked admits root certs (above ++ place ∷ []) next between last

-- the CAs at the places between are within the depth, and their share is enough for their children,
-- where those at the places above have this one: so the walk looks at the children
pub record HasEnough (x : Context) (asked : RevocationChecks) (admits : List ℕ → ℕ → Type 0)
    (root : Root) (certs : List (List ℕ)) (above : List ℕ) (share depth : ℕ)
    (between : List ℕ) : Type 0 where
  pub within : length between < depth
  pub last : ℕ
  pub has : HasShare x asked admits root certs above share between last
  pub children : List ℕ
  pub are_children : AreChildren x asked admits root certs (above ++ between) children
  pub enough : length children ≤ last

-- where a walk says that the steps are used up, the share of CAs that are reached is less than their
-- children
pub record IsShort (x : Context) (asked : RevocationChecks) (admits : List ℕ → ℕ → Type 0)
    (root : Root) (certs : List (List ℕ)) (above : List ℕ) (share : ℕ) : Type 0 where
  pub between : List ℕ
  pub last : ℕ
  pub has : HasShare x asked admits root certs above share between last
  pub children : List ℕ
  pub are_children : AreChildren x asked admits root certs (above ++ between) children
  pub short : last < length children

-- ---- what a walk tells

-- each certificate was accepted to which an admitted path leads that was looked at
abbrev pub IsComplete : Context → RevocationChecks → (List ℕ → ℕ → Type 0) → Root → List (List ℕ)
    → List ℕ → ℕ → List Told → Ended → Type 0
IsComplete x asked admits root certs above depth ts ended =
    (between : List ℕ) (place : ℕ) → Covers ended depth (length between + 1)
    → AreAdmitted admits above (between ++ place ∷ [])
    → IsReached x asked root certs (above ++ between) place → IsTold ts (above ++ between) place

-- however the walk ended, each certificate was accepted to which an admitted path leads whose CAs have
-- enough
abbrev pub IsCompleteInShares : Context → RevocationChecks → (List ℕ → ℕ → Type 0) → Root
    → List (List ℕ) → List ℕ → ℕ → ℕ → List Told → Type 0
IsCompleteInShares x asked admits root certs above depth share ts =
    (between : List ℕ) (place : ℕ)
    → HasEnough x asked admits root certs above share depth between
    → AreAdmitted admits above (between ++ place ∷ [])
    → IsReached x asked root certs (above ++ between) place → IsTold ts (above ++ between) place

-- what a walk that ended so has looked at, to which an admitted path leads, is below CAs that have
-- enough
abbrev pub IsEnough : Context → RevocationChecks → (List ℕ → ℕ → Type 0) → Root → List (List ℕ)
    → List ℕ → ℕ → ℕ → Ended → Type 0
IsEnough x asked admits root certs above depth share ended =
    (between : List ℕ) (place : ℕ) → Covers ended depth (length between + 1)
    → AreAdmitted admits above (between ++ place ∷ [])
    → IsReached x asked root certs (above ++ between) place
    → HasEnough x asked admits root certs above share depth between

-- the verdict is on a certificate that is let in below those places, by CAs each of which is
abbrev pub IsLetIn : (List ℕ → ℕ → Type 0) → List ℕ → Told → Type 0
IsLetIn admits above t =
    (between : List ℕ) × (t.above ≡ above ++ between)
    × AreAdmitted admits above (between ++ t.place ∷ [])

-- a valid path leads to the last of the CAs at these places, and the certificate at the place is its child
abbrev pub IsChildAt : Context → RevocationChecks → Root → List (List ℕ) → List ℕ → ℕ → Type 0
IsChildAt x asked root certs above place =
    (issuer : ResourceFields) × LeadsTo x asked root (members_at root certs above) issuer
    × IsChildOf x.verifies issuer.cert certs place

-- however the walk ended, each child that is let in below CAs that have enough has a verdict, whether it
-- is accepted or rejected
abbrev pub IsJudgedInShares : Context → RevocationChecks → (List ℕ → ℕ → Type 0) → Root
    → List (List ℕ) → List ℕ → ℕ → ℕ → List Told → Type 0
IsJudgedInShares x asked admits root certs above depth share ts =
    (between : List ℕ) (place : ℕ)
    → HasEnough x asked admits root certs above share depth between
    → AreAdmitted admits above (between ++ place ∷ [])
    → IsChildAt x asked root certs (above ++ between) place
    → IsVerdictTold ts (above ++ between) place

-- the verdict takes a step: it is on a child of the last of the CAs above it
abbrev pub TakesStep : Context → RevocationChecks → Root → List (List ℕ) → Told → Type 0
TakesStep x asked root certs t = IsChildAt x asked root certs t.above t.place

-- no more of the verdicts take a step
abbrev pub AreFew : Context → RevocationChecks → Root → List (List ℕ) → ℕ → List Told → Type 0
AreFew x asked root certs steps ts =
    (those : List Told) → ArePicked (TakesStep x asked root certs) ts those
    → length those ≤ steps

-- a valid path leads to the last of the CAs at these places, and its key is the one that a
-- certificate names which is let in below them
pub record HasBelow (x : Context) (asked : RevocationChecks)
    (admits : List ℕ → ℕ → Type 0) (root : Root) (certs : List (List ℕ))
    (above between : List ℕ) : Type 0 where
  pub issuer : ResourceFields
  pub leads : LeadsTo x asked root (members_at root certs (above ++ between)) issuer
  pub place : ℕ
  pub child : IsChildOf x.verifies issuer.cert certs place
  pub admitted : AreAdmitted admits above (between ++ place ∷ [])

-- where a walk of this depth says that it is too deep, a certificate stands below a path that long
abbrev pub IsTooDeep : Context → RevocationChecks → (List ℕ → ℕ → Type 0) → Root → List (List ℕ)
    → List ℕ → ℕ → Ended → Type 0
IsTooDeep x asked admits root certs above depth ended =
    ended ≡ TooDeep → (between : List ℕ) × (length between ≡ depth)
    × HasBelow x asked admits root certs above between

-- What a walk tells below the CAs at these places, which have this share: each verdict is right and on
-- a certificate that is let in, no more of them take a step than the share, and each path was looked
-- at whose CAs have enough: each child that is let in below them has a verdict. Where the walk ended, it
-- looked at each path that its end says, and the CAs of each have enough. It says that a bound was met
-- only where it was.
pub record TellsWithin {E : Type 0} (x : Context) (asked : RevocationChecks)
    (admits : List ℕ → ℕ → Type 0) (root : Root) (certs : List (List ℕ)) (above : List ℕ)
    (depth share : ℕ) (result : Result Ended E) (ts : List Told) : Type 0 where
  pub right : AllByRecursion (IsRight x asked root certs) ts
  pub let_in : AllByRecursion (IsLetIn admits above) ts
  pub few : AreFew x asked root certs share ts
  pub short : IfOk result (λ ended. ended ≡ OutOfSteps
      → IsShort x asked admits root certs above share)
  pub too_deep : IfOk result (IsTooDeep x asked admits root certs above depth)
  pub complete : IfOk result (IsComplete x asked admits root certs above depth ts)
  pub in_shares : IfOk result (λ ended.
      IsCompleteInShares x asked admits root certs above depth share ts)
  pub judged : IfOk result (λ ended.
      IsJudgedInShares x asked admits root certs above depth share ts)
  pub enough : IfOk result (IsEnough x asked admits root certs above depth share)

-- the same, wherever the issuer stands at the end of a valid path
abbrev pub TellsBelow : {E : Type 0} → Context → RevocationChecks → (List ℕ → ℕ → Type 0)
    → ResourceFields → List (List ℕ) → List ℕ → ℕ → ℕ → Result Ended E → List Told → Type 0
TellsBelow x asked admits issuer certs above depth share result ts =
    (root : Root) → LeadsTo x asked root (members_at root certs above) issuer
    → TellsWithin x asked admits root certs above depth share result ts

-- what a walk tells below the locator's trust anchor, with these octets, of the certificates that it
-- looks at
abbrev pub TellsFrom : {E : Type 0} → Context → RevocationChecks → Bool
    → (List ℕ → ℕ → Type 0) → NamedTal → List ℕ → List (List ℕ) → ℕ → ℕ → Result Ended E
    → List Told → Type 0
TellsFrom x asked names admits t anchor certs depth steps result ts =
    (top : CertFields) → Means IsCertificate top anchor
    → TellsWithin x asked (IsLookedAt names admits top certs) (at_anchor t anchor) certs [] depth steps
    result ts

-- names are asked, and the trust anchor, which is valid, has two
abbrev pub HasOtherName : Context → RevocationChecks → Bool → NamedTal → List ℕ → Type 0
HasOtherName x asked names t anchor =
    IsTrue names × ((r : ResourceFields) × LeadsTo x asked (at_anchor t anchor) [] r
    × (IsSelfNamed r.cert → ⊥))

-- why a walk didn't begin: what is wrong with the trust anchor; or memory ran out
abbrev pub IsWhyNone : Context → RevocationChecks → Bool → NamedTal → List ℕ → WalkError → Type 0
IsWhyNone x asked names t anchor (Anchor e) =
    (IsOutOfMemory e → ⊥) × IsLocatedFault x asked t.tal anchor [] e
IsWhyNone x asked names t anchor OtherName = HasOtherName x asked names t anchor
IsWhyNone x asked names t anchor memory = Unit {0}
