-- Conditions that are tested one after the other.
use Rattle.std.specs.Prelude.{◌≡◌, ◌⊎◌, List, [], ◌∷◌, Result, Ok, Err}
use Rattle.std.specs.List.{AllByRecursion}

-- x is the first of the list of which P doesn't hold: it is the one in front, or that one holds and
-- x is the first of the others
abbrev pub IsFirstFalse : {X : Type 0} → (X → Type 0) → List X → X → Type 0
IsFirstFalse P [] x = ⊥
IsFirstFalse P (y ∷ ys) x = ((x ≡ y) × (P y → ⊥)) ⊎ (P y × IsFirstFalse P ys x)

-- what a test of all of them answers: Ok where P holds of each, else the first of which it doesn't
abbrev pub Tests : {T X : Type 0} → (X → Type 0) → List X → Result T X → Type 0
Tests P xs (Ok v) = AllByRecursion P xs
Tests P xs (Err x) = IsFirstFalse P xs x
