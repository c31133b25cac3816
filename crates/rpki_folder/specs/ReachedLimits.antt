-- The CAs at which a walk reached a limit, and with how many steps a walk judges their children (own).
use Rattle.std.specs.Prelude.{◌≡◌, ◌^◌, ◌↔◌, ◌<◌, ◌≤◌, ℕ, Bool, List, [], ◌∷◌, ◌++◌, length, Any, Option, None}
use Rattle.std.specs.Prelude.{Some, Result, Ok, Err, IfOk}
use Rattle.std.specs.List.{AllByRecursion}
use Rattle.rpki_ext.specs.Kinds.{Means}
use Rattle.rpki_cert.specs.Certificates.{CertFields, IsCertificate}
use Rattle.rpki_cert.specs.Verification.{Context}
use Rattle.rpki_keys.specs.Locators.{NamedTal}
use Rattle.rpki_path.specs.Asking.{RevocationChecks}
use Rattle.rpki_folder.specs.Walks.{Root, at_anchor, worse, AreAdmitted, AreChildren, HasShare, HasEnough, HasBelow}
use Rattle.rpki_folder.specs.Walks.{IsLookedAt}
use Rattle.rpki_folder.specs.declared.bounds.Ended.{Ended}
use Rattle.rpki_folder.specs.declared.bounds.Ended.TheVariants.{Whole, TooDeep, OutOfSteps}
use Rattle.rpki_folder.specs.declared.bounds.Limit.{Limit}
use Rattle.rpki_folder.specs.declared.bounds.Limit.TheVariants.{Depth, Steps as steps}
use Rattle.rpki_folder.specs.declared.bounds.Walked.{Walked}
pub mod Steps

-- ---- limits

-- where the CAs at the places above have this share, the walk goes down to those at the places between,
-- which are at its depth, and a child is let in below the last of them
pub record IsDeepAt (x : Context) (asked : RevocationChecks) (admits : List ℕ → ℕ → Type 0)
    (root : Root) (certs : List (List ℕ)) (above : List ℕ) (share depth : ℕ)
    (between : List ℕ) : Type 0 where
  pub at_depth : length between ≡ depth
  pub last : ℕ
  pub has : HasShare x asked admits root certs above share between last
  pub below : HasBelow x asked admits root certs above between

-- it goes down to those at the places between, which are let in within its depth, and the share of the
-- last of them is less than its children
pub record IsShortAt (x : Context) (asked : RevocationChecks) (admits : List ℕ → ℕ → Type 0)
    (root : Root) (certs : List (List ℕ)) (above : List ℕ) (share depth : ℕ)
    (between : List ℕ) : Type 0 where
  pub within : length between < depth
  pub admitted : AreAdmitted admits above between
  pub last : ℕ
  pub has : HasShare x asked admits root certs above share between last
  pub children : List ℕ
  pub are_children : AreChildren x asked admits root certs (above ++ between) children
  pub short : last < length children

-- the children of the last of those at the places between are judged if and only if the CAs at the places
-- above have at least this share
abbrev pub IsNeed : Context → RevocationChecks → (List ℕ → ℕ → Type 0) → Root → List (List ℕ)
    → List ℕ → ℕ → List ℕ → ℕ → Type 0
IsNeed x asked admits root certs above depth between need =
    (share : ℕ) → need ≤ share ↔ HasEnough x asked admits root certs above share depth between

-- this number, or none if it is more than a usize has
abbrev pub IsToldNumber : Option ℕ → ℕ → Type 0
IsToldNumber (Some told) n = told ≡ n
IsToldNumber None n = 2 ^ 64 ≤ n

-- a walk of so many steps and this depth reaches this limit at the last of the CAs at these places
abbrev pub IsLimitAt : Context → RevocationChecks → (List ℕ → ℕ → Type 0) → Root → List (List ℕ)
    → ℕ → ℕ → List ℕ → Limit → Type 0
IsLimitAt x asked admits root certs share depth above Depth =
    IsDeepAt x asked admits root certs [] share depth above
IsLimitAt x asked admits root certs share depth above (steps told) =
    IsShortAt x asked admits root certs [] share depth above
    × ((need : ℕ) × IsNeed x asked admits root certs [] depth above need × IsToldNumber told need)

-- ---- what is told of them

-- a CA at which a walk reached a limit, the last of those at these places: none of its children was judged
-- there
pub record LimitedCa : Type 0 where
  pub above : List ℕ
  pub limit : Limit

abbrev pub limited_ca : List ℕ → Limit → LimitedCa
limited_ca above limit = record { above = above; limit = limit }

-- the last of the CAs at these places is told as one at the depth
abbrev pub IsDeepTold : List LimitedCa → List ℕ → Type 0
IsDeepTold limited above = Any (λ l. (l.above ≡ above) × (l.limit ≡ Depth)) limited

-- it is told as one whose share is too small
abbrev pub IsShortTold : List LimitedCa → List ℕ → Type 0
IsShortTold limited above =
    Any (λ l. (l.above ≡ above) × ((told : Option ℕ) × (l.limit ≡ steps told))) limited

-- these are the CAs at which a walk of so many steps and this depth reaches a limit, each with that: none
-- is wrong, and none is left out
pub record AreLimited (x : Context) (asked : RevocationChecks) (admits : List ℕ → ℕ → Type 0)
    (root : Root) (certs : List (List ℕ)) (depth share : ℕ) (limited : List LimitedCa) : Type 0 where
  pub only : AllByRecursion (λ l.
      IsLimitAt x asked admits root certs share depth l.above l.limit) limited
  pub deep : (above : List ℕ) → IsDeepAt x asked admits root certs [] share depth above
      → IsDeepTold limited above
  pub short : (above : List ℕ) → IsShortAt x asked admits root certs [] share depth above
      → IsShortTold limited above

-- the same below the locator's trust anchor, with these octets
abbrev pub AreLimitedFrom : Context → RevocationChecks → Bool → (List ℕ → ℕ → Type 0) → NamedTal
    → List ℕ → List (List ℕ) → ℕ → ℕ → List LimitedCa → Type 0
AreLimitedFrom x asked names admits t anchor certs depth share limited =
    (top : CertFields) → Means IsCertificate top anchor
    → AreLimited x asked (IsLookedAt names admits top certs) (at_anchor t anchor) certs depth share
    limited

-- ---- how a walk ended

-- of a walk that reached this limit
abbrev pub end_at : Limit → Ended
end_at Depth = TooDeep
end_at (steps told) = OutOfSteps

-- of a walk that reached a limit at these CAs and no others
abbrev pub end_of : List LimitedCa → Ended
end_of [] = Whole
end_of (l ∷ limited) = worse (end_at l.limit) (end_of limited)

-- the end that is told with the CAs
abbrev pub ended_of : {E : Type 0} → Result Walked E → Result Ended E
ended_of (Ok walked) = Ok walked.ended
ended_of (Err e) = Err e
