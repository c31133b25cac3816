-- Stores of revocation lists (own).
use Rattle.std.specs.Prelude.{◌≡◌, ℕ, Bool, ◌||◌, List, Option, Some, None, codes}
use Rattle.std.specs.List.{AllByRecursion}
use Rattle.rpki_der.specs.Sequences.{IsFirstWith}
use Rattle.rpki_parts.specs.Uris.{AreEqual}
use Rattle.rpki_crl.specs.Lists.{CrlState}

-- a list, and the URI under which it is stored
abbrev pub Stored : Type 0
Stored = List ℕ × CrlState

-- what a contract sees of a CrlStore: the pairs, the one stored first in front, and whether the
-- serials of later ones are cached
pub record StoreFields : Type 0 where
  pub pairs : List Stored
  pub caches : Bool

-- stored under an equal URI
abbrev pub IsUnder : List ℕ → Stored → Type 0
IsUnder uri pair = AreEqual (codes "rsync://") pair.0 uri

-- the list that was stored first under an equal URI, or none
abbrev pub IsEarliest : List ℕ → List Stored → Option CrlState → Type 0
IsEarliest uri pairs None = AllByRecursion (λ pair. IsUnder uri pair → ⊥) pairs
IsEarliest uri pairs (Some crl) = (first : Stored) × IsFirstWith (IsUnder uri) first pairs × (crl ≡ first.1)

-- a list as it is stored: with a table of its serials where those are cached
abbrev pub as_stored : Bool → CrlState → CrlState
as_stored caches crl = record { list = crl.list; is_cached = caches || crl.is_cached }

-- the pair that is stored
abbrev pub stored : Bool → List ℕ → CrlState → Stored
stored caches uri crl = (uri, as_stored caches crl)
