-- The limits that a walk reached, by the certificates of the CAs at which it reached them (own).
use Rattle.std.specs.Prelude.{◌≡◌, ◌==◌, ◌+◌, ◌-◌, ◌^◌, ◌<◌, ◌≤◌, ◌||◌, ℕ, Bool, true, false, if◌then◌else◌, fold}
use Rattle.std.specs.Prelude.{min, List, [], ◌∷◌, slice_index_or, Option, Some, None}
use Rattle.rpki_folder.specs.ReachedLimits.{LimitedCa, end_of}
use Rattle.rpki_folder.specs.declared.bounds.Limit.{Limit}
use Rattle.rpki_folder.specs.declared.bounds.Limit.TheVariants.{Depth, Steps as steps}
use Rattle.rpki_folder.specs.declared.bounds.Walked.{Walked}
use Rattle.rpki_folder.specs.declared.limits.LimitTable.{LimitTable}
use Rattle.rpki_folder.specs.declared.limits.Reached.{Reached}

-- ---- at one certificate

-- no limit was reached
abbrev pub nothing : Reached
nothing = record { paths = 0; deep = false; short = false; needed = None }

-- the lesser of two numbers, if they are known
abbrev pub lesser : Option ℕ → Option ℕ → Option ℕ
lesser (Some n) (Some m) = Some (min n m)
lesser (Some n) None = Some n
lesser None other = other

-- this one was reached at one path
abbrev pub of_limit : Limit → Reached
of_limit Depth = record { paths = 1; deep = true; short = false; needed = None }
of_limit (steps needed) = record { paths = 1; deep = false; short = true; needed = needed }

-- these were reached and those; paths are counted as far as a usize goes
abbrev pub both_reached : Reached → Reached → Reached
both_reached r s = record {
  paths = min (r.paths + s.paths) (2 ^ 64 - 1);
  deep = r.deep || s.deep;
  short = r.short || s.short;
  needed = lesser r.needed s.needed;
}

-- where the least number of steps is this, and the depth and the share of the steps were reached or not: the
-- limit that asks for the least to be changed, which is that number of steps, or else the depth, or else more
-- steps than there can be
abbrev pub least_limit : Option ℕ → Bool → Bool → Option Limit
least_limit (Some n) deep short = Some (steps (Some n))
least_limit None true short = Some Depth
least_limit None false true = Some (steps None)
least_limit None false false = None

abbrev pub least : Reached → Option Limit
least r = least_limit r.needed r.deep r.short

-- ---- at each

-- the place of the last of the CAs at these places; where there is none, that of the certificate below which
-- the walk starts
abbrev pub ca_at : ℕ → List ℕ → ℕ
ca_at start [] = start
ca_at start (place ∷ places) = ca_at place places

-- what was reached at the certificate at a place, if at these CAs more was reached than before
abbrev pub reached_more : ℕ → ℕ → Reached → List LimitedCa → Reached
reached_more start place before limited =
    fold (λ r ca. if ca_at start ca.above == place then both_reached (of_limit ca.limit) r else r) before limited

-- what a table has at a place
abbrev pub reached_at : LimitTable → ℕ → Reached
reached_at table place = slice_index_or table.reached.items place nothing

-- the table has at each of so many places, and at the next number, what was reached there, of the limits at
-- these CAs; and nothing beyond
pub record IsTableOf (start count : ℕ) (limited : List LimitedCa) (table : LimitTable) : Type 0 where
  pub start_is : table.start ≡ start
  pub each : (place : ℕ) → place ≤ count
      → reached_at table place ≡ reached_more start place nothing limited
  pub beyond : (place : ℕ) → count < place → reached_at table place ≡ nothing

-- a walk ended so, and has this table, by the limits at these CAs
pub record HasReached (start count : ℕ) (limited : List LimitedCa) (walked : Walked) : Type 0 where
  pub ended : walked.ended ≡ end_of limited
  pub table : IsTableOf start count limited walked.limits
