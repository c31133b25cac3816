-- Two blocks beside each other.
use Rattle.std.specs.Prelude.{◌≡◌, ◌<◌, ◌≤◌, min, max}
use Rattle.rpki_blocks.specs.Sets.{Block}

-- m has the numbers that are in both blocks
pub record IsMeet (a b m : Block) : Type 0 where
  pub lower : m.min ≡ max a.min b.min
  pub upper : m.max ≡ min a.max b.max
  pub some : m.min ≤ m.max

-- no number is in both blocks
abbrev pub AreApart : Block → Block → Type 0
AreApart a b = min a.max b.max < max a.min b.min

-- j goes from the lower end of a to the greater of both upper ends
pub record IsJoin (a b j : Block) : Type 0 where
  pub lower : j.min ≡ a.min
  pub upper : j.max ≡ max a.max b.max
  pub some : j.min ≤ j.max
