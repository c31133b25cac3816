-- Sets of whole numbers, as lists of blocks (RFC 3779 2.1, 2.2.3.6, 3.2.3.4).
use Rattle.std.specs.Prelude.{◌≡◌, ℕ, ◌+◌, ◌<◌, ◌≤◌, Bool, true, false, ◌&&◌, nat_le, IsTrue, List, [], ◌∷◌}
use Rattle.std.specs.List.{list_any, AllByRecursion}
pub mod Views

-- the numbers from min to max; the Rust struct Block
pub record Block : Type 0 where
  pub min : ℕ
  pub max : ℕ

-- the block from min to max
abbrev pub between : ℕ → ℕ → Block
between low high = record { min = low; max = high }

-- whether n is in the block
abbrev pub is_within : ℕ → Block → Bool
is_within n b = nat_le b.min n && nat_le n b.max

-- whether n is in one of the blocks
abbrev pub is_in : ℕ → List Block → Bool
is_in n bs = list_any (is_within n) bs

-- n is in one of the blocks
abbrev pub Has : List Block → ℕ → Type 0
Has bs n = IsTrue (is_in n bs)

-- ascending, disjoint and not adjacent: the one list of blocks of a set; the Rust struct Chain is
-- one
abbrev pub IsChain : List Block → Type 0
IsChain [] = Unit {0}
IsChain (b ∷ []) = b.min ≤ b.max
IsChain (b ∷ c ∷ more) = (b.min ≤ b.max) × (b.max + 1 < c.min) × IsChain (c ∷ more)

-- no block goes past the greatest number
abbrev pub AreUpTo : ℕ → List Block → Type 0
AreUpTo greatest bs = AllByRecursion (λ b. b.max ≤ greatest) bs

-- a set of numbers up to the greatest
pub record IsSet (greatest : ℕ) (bs : List Block) : Type 0 where
  pub chain : IsChain bs
  pub small : AreUpTo greatest bs

-- both lists of blocks have the same numbers
abbrev pub HaveSameNumbers : List Block → List Block → Type 0
HaveSameNumbers bs cs = (n : ℕ) → is_in n bs ≡ is_in n cs

-- each number of bs is in cs
abbrev pub AreIn : List Block → List Block → Type 0
AreIn bs cs = (n : ℕ) → is_in n bs ≡ true → is_in n cs ≡ true

-- a number of bs, at most the greatest, that is not in cs
pub record Escapes (greatest : ℕ) (bs cs : List Block) : Type 0 where
  pub number : ℕ
  pub small : number ≤ greatest
  pub inside : is_in number bs ≡ true
  pub outside : is_in number cs ≡ false

-- both has the numbers that are in bs and in cs
abbrev pub IsIntersection : List Block → List Block → List Block → Type 0
IsIntersection bs cs both = (n : ℕ) → is_in n both ≡ (is_in n bs && is_in n cs)
