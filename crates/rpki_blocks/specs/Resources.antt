-- What a certificate lists of one kind of numbers (RFC 3779 2.2.3.4, 3.2.3.2).
use Rattle.std.specs.Prelude.{◌≡◌, ◌≢◌, ℕ, List, [], ◌∷◌}
use Rattle.rpki_blocks.specs.Sets.{Block, IsSet}
pub mod Views

-- the Rust type Resources
pub data Resources : Type 0 where
  missing inherit : Resources
  blocks : List Block → Resources

-- a set; the empty one is missing (own)
abbrev pub listed : List Block → Resources
listed [] = missing
listed (b ∷ bs) = blocks (b ∷ bs)

-- what the type asks of its values: a set of blocks isn't empty, and its numbers are of the kind
abbrev pub IsResources : ℕ → Resources → Type 0
IsResources greatest missing = Unit {0}
IsResources greatest inherit = Unit {0}
IsResources greatest (blocks bs) = (bs ≢ []) × IsSet greatest bs

-- no set is listed
abbrev pub HasNoBlocks : Resources → Type 0
HasNoBlocks missing = Unit {0}
HasNoBlocks inherit = Unit {0}
HasNoBlocks (blocks bs) = ⊥

-- the set that is listed; missing lists the empty one
abbrev pub ListsSet : Resources → List Block → Type 0
ListsSet missing set = set ≡ []
ListsSet inherit set = ⊥
ListsSet (blocks bs) set = set ≡ bs
