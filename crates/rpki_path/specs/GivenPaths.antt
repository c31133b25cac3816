-- The strings of a path that is asked about, and how strings are split into one (own).
use Rattle.std.specs.Prelude.{◌≡◌, ◌⊎◌, ◌+◌, ◌≤◌, ℕ, List, [], ◌∷◌, ◌++◌, length, map, Option, Some, None}
use Rattle.rpki_cert.specs.declared.inspect.Kind.{Kind}
use Rattle.rpki_cert.specs.declared.inspect.Kind.TheVariants.{Anchor, Authority, EndEntity, Detached, Router}
use Rattle.rpki_path.specs.declared.given.Last.{Last}
use Rattle.rpki_path.specs.declared.given.Last.TheVariants as last
use Rattle.rpki_path.specs.Paths.{Candidate, candidate}

-- the strings of a trust anchor, of the members below it, and of a router below these, if there is
-- one
pub record PathStrings : Type 0 where
  pub anchor : List ℕ
  pub below : List Candidate
  pub router : Option (List ℕ)

-- the member that a last string is to be; a router is none, since of its certificate no numbers are
-- held
abbrev pub last_candidates : Option Last → List Candidate
last_candidates (Some (last.Ee octets)) = candidate EndEntity octets.now ∷ []
last_candidates (Some (last.DetachedEe octets)) = candidate Detached octets.now ∷ []
last_candidates _ = []

-- the router's string, where the last is one's
abbrev pub last_router : Option Last → Option (List ℕ)
last_router (Some (last.Router octets)) = Some octets.now
last_router _ = None

-- the members below a trust anchor: CAs, and the last, where it isn't a CA
abbrev pub members_below : List (List ℕ) → Option Last → List Candidate
members_below cas end = map (candidate Authority) cas ++ last_candidates end

-- the strings of a trust anchor, of CAs below it, and of the last, where it isn't a CA
abbrev pub path_strings : List ℕ → List (List ℕ) → Option Last → PathStrings
path_strings anchor cas end = record {
  anchor = anchor;
  below = members_below cas end;
  router = last_router end;
}

-- how many a router adds
abbrev pub router_count : Option (List ℕ) → ℕ
router_count None = 0
router_count (Some octets) = 1

-- how many strings these are
abbrev pub string_count : PathStrings → ℕ
string_count g = length g.below + router_count g.router + 1

-- ---- how strings are split

-- so many strings can be a path whose last is of this kind: a trust anchor stands alone, and an end
-- entity or a router below one
abbrev pub CanEndIn : Kind → ℕ → Type 0
CanEndIn Anchor n = n ≡ 1
CanEndIn Authority n = 1 ≤ n
CanEndIn _ n = 2 ≤ n

-- the trust anchor alone
abbrev pub anchor_alone : List ℕ → PathStrings
anchor_alone anchor = record { anchor = anchor; below = []; router = None }

-- the trust anchor, CAs below it, and at the end one of this kind
abbrev pub path_to : List ℕ → List (List ℕ) → Kind → List ℕ → PathStrings
path_to anchor cas Router octets = record {
  anchor = anchor;
  below = map (candidate Authority) cas;
  router = Some octets;
}
path_to anchor cas kind octets = record {
  anchor = anchor;
  below = map (candidate Authority) cas ++ candidate kind octets ∷ [];
  router = None;
}

-- there is a last string below the trust anchor's, and it is judged as this kind
pub record HasLast (strings : List (List ℕ)) (kind : Kind) (g : PathStrings) : Type 0 where
  pub anchor : List ℕ
  pub cas : List (List ℕ)
  pub octets : List ℕ
  pub strings_are : strings ≡ anchor ∷ (cas ++ octets ∷ [])
  pub path_is : g ≡ path_to anchor cas kind octets

-- the path that the strings are, the trust anchor's first, where the last is of this kind
abbrev pub IsSplitAs : List (List ℕ) → Kind → PathStrings → Type 0
IsSplitAs strings kind g =
    ((anchor : List ℕ) × (strings ≡ anchor ∷ []) × (g ≡ anchor_alone anchor))
    ⊎ HasLast strings kind g
