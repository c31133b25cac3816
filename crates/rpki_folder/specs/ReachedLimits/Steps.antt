-- The limits that a walk reaches below an issuer, and what the share there costs.
use Rattle.std.specs.Prelude.{◌≡◌, ◌^◌, ◌+◌, ◌*◌, ◌<◌, ◌≤◌, ℕ, List, ◌++◌, length, slice_index_or, Contains}
use Rattle.std.specs.Prelude.{Option, None, Some}
use Rattle.std.specs.List.{AllByRecursion}
use Rattle.rpki_cert.specs.Verification.{Context, ResourceFields}
use Rattle.rpki_path.specs.Asking.{RevocationChecks}
use Rattle.rpki_folder.specs.Walks.{Root, members_at, LeadsTo}
use Rattle.rpki_folder.specs.Walks.Steps.{down_to}
use Rattle.rpki_folder.specs.ReachedLimits.{IsDeepAt, IsShortAt, IsNeed, IsToldNumber, LimitedCa, IsDeepTold}
use Rattle.rpki_folder.specs.ReachedLimits.{IsShortTold, end_of}
use Rattle.rpki_folder.specs.LimitTables.{nothing, reached_more}
use Rattle.rpki_folder.specs.declared.bounds.Ended.{Ended}
use Rattle.rpki_folder.specs.declared.bounds.Limit.{Limit}
use Rattle.rpki_folder.specs.declared.bounds.Limit.TheVariants.{Depth, Steps as steps}
use Rattle.rpki_folder.specs.declared.limits.LimitTable.{LimitTable}
use Rattle.rpki_folder.specs.declared.share.Cost.{Cost}
use Rattle.rpki_folder.specs.declared.share.Share.{Share}
use Rattle.rpki_folder.specs.declared.walk.Ca.{Ca}

-- ---- tables

-- the table of a walk that starts below the certificate at this place, at so many places, where no limit was
-- reached yet
pub record IsEmpty (start count : ℕ) (table : LimitTable) : Type 0 where
  pub start_is : table.start ≡ start
  pub count_is : length table.reached.items ≡ count + 1
  pub each : (place : ℕ) → place ≤ count
      → slice_index_or table.reached.items place nothing ≡ nothing

-- the limits that were reached at these CAs were added to a table
pub record AreCounted (old : LimitTable) (limited : List LimitedCa) (new : LimitTable) : Type 0 where
  pub start_is : new.start ≡ old.start
  pub count_is : length new.reached.items ≡ length old.reached.items
  pub each : (place : ℕ) → place < length old.reached.items
      → slice_index_or new.reached.items place nothing
      ≡ reached_more old.start place (slice_index_or old.reached.items place nothing) limited

-- ---- below an issuer

-- a walk of `base + factor * share` steps hands down this share; none is told if that is more than a usize
-- has for a share of one step
abbrev pub CostIs : Option Cost → ℕ → ℕ → Type 0
CostIs (Some cost) base factor = (cost.base ≡ base) × (cost.factor ≡ factor)
CostIs None base factor = 2 ^ 64 ≤ base + factor

-- the walk reaches this limit at the last of the CAs at the places between
abbrev pub IsLimitOf : Context → RevocationChecks → (List ℕ → ℕ → Type 0) → Root → List (List ℕ)
    → List ℕ → ℕ → ℕ → ℕ → ℕ → List ℕ → Limit → Type 0
IsLimitOf x asked admits root certs above depth share base factor between Depth =
    IsDeepAt x asked admits root certs above share depth between
IsLimitOf x asked admits root certs above depth share base factor between (steps told) =
    IsShortAt x asked admits root certs above share depth between
    × ((need : ℕ) × IsNeed x asked admits root certs above depth between need
    × IsToldNumber told (base + factor * need))

-- what is told is a limit at a CA below those at the places above
abbrev pub IsLimitBelow : Context → RevocationChecks → (List ℕ → ℕ → Type 0) → Root
    → List (List ℕ) → List ℕ → ℕ → ℕ → ℕ → ℕ → LimitedCa → Type 0
IsLimitBelow x asked admits root certs above depth share base factor l =
    (between : List ℕ) × (l.above ≡ above ++ between)
    × IsLimitOf x asked admits root certs above depth share base factor between l.limit

-- these are the limits that the walk reaches below the CAs at the places above
pub record AreLimitedBelow (x : Context) (asked : RevocationChecks) (admits : List ℕ → ℕ → Type 0)
    (root : Root) (certs : List (List ℕ)) (above : List ℕ) (depth share base factor : ℕ)
    (limited : List LimitedCa) : Type 0 where
  pub only : AllByRecursion
      (IsLimitBelow x asked admits root certs above depth share base factor) limited
  pub deep : (between : List ℕ) → IsDeepAt x asked admits root certs above share depth between
      → IsDeepTold limited (above ++ between)
  pub short : (between : List ℕ) → IsShortAt x asked admits root certs above share depth between
      → IsShortTold limited (above ++ between)

-- what a walk counts of the limits that it reached below an issuer, beside those that it counted before
pub record KeepsBelow (x : Context) (asked : RevocationChecks) (admits : List ℕ → ℕ → Type 0)
    (issuer : ResourceFields) (certs : List (List ℕ)) (above : List ℕ) (depth : ℕ) (share : Share)
    (old new : LimitTable) (ended : Ended) : Type 0 where
  pub more : List LimitedCa
  pub counted : AreCounted old more new
  pub ended_is : ended ≡ end_of more
  pub are : (root : Root) → LeadsTo x asked root (members_at root certs above) issuer
      → (base factor : ℕ) → CostIs share.cost base factor
      → AreLimitedBelow x asked admits root certs above depth share.steps base factor more

-- ---- below CAs

-- these are the limits that the walk reaches below each of these CAs
pub record AreLimitedBelowEach (x : Context) (asked : RevocationChecks)
    (admits : List ℕ → ℕ → Type 0) (root : Root) (certs : List (List ℕ)) (above : List ℕ)
    (depth share base factor : ℕ) (cas : List Ca) (limited : List LimitedCa) : Type 0 where
  pub only : AllByRecursion (λ l. (ca : Ca) × Contains cas ca
      × IsLimitBelow x asked admits root certs (down_to above ca) depth share base factor l) limited
  pub deep : (ca : Ca) → Contains cas ca → (between : List ℕ)
      → IsDeepAt x asked admits root certs (down_to above ca) share depth between
      → IsDeepTold limited (down_to above ca ++ between)
  pub short : (ca : Ca) → Contains cas ca → (between : List ℕ)
      → IsShortAt x asked admits root certs (down_to above ca) share depth between
      → IsShortTold limited (down_to above ca ++ between)

-- what a walk counts of the limits that it reached below each of these CAs
pub record KeepsBelowEach (x : Context) (asked : RevocationChecks) (admits : List ℕ → ℕ → Type 0)
    (certs : List (List ℕ)) (above : List ℕ) (depth : ℕ) (share : Share) (cas : List Ca)
    (old new : LimitTable) (ended : Ended) : Type 0 where
  pub more : List LimitedCa
  pub counted : AreCounted old more new
  pub ended_is : ended ≡ end_of more
  pub are : (root : Root)
      → ((ca : Ca) → Contains cas ca
      → LeadsTo x asked root (members_at root certs (down_to above ca)) ca.holder)
      → (base factor : ℕ) → CostIs share.cost base factor
      → AreLimitedBelowEach x asked admits root certs above depth share.steps base factor cas more
