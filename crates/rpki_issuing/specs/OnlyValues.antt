-- The only value of which something is so (own).
use Rattle.std.specs.Prelude.{◌≡◌, Option, Some, None}

-- it is so of this value, and of no other
abbrev pub IsOnly : {V : Type 0} → (V → Type 0) → V → Type 0
IsOnly {V} Is v = Is v × ((w : V) → Is w → w ≡ v)

-- the only value of which it is so; or it is so of none
abbrev pub FindsOnly : {V : Type 0} → (V → Type 0) → Option V → Type 0
FindsOnly {V} Is None = (v : V) → Is v → ⊥
FindsOnly {V} Is (Some v) = IsOnly Is v
