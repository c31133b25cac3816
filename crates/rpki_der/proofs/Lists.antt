-- Lists: their heads, and what holds of each element.
use Rattle.std.specs.List.{AllByRecursion}
use Rattle.std.proofs.Common.{◌≡◌, List, [], ◌∷◌, ◌++◌}

-- equal lists have equal heads and equal tails
pub heads : {X : Type 0} (x y : X) (xs ys : List X) → x ∷ xs ≡ y ∷ ys → (x ≡ y) × (xs ≡ ys)
heads x y xs ys e = (cc, cc)

-- the empty list has no last element
pub no_last : {X : Type 0} (front : List X) (last : X) → [] ≡ front ++ last ∷ [] → ⊥
no_last [] last e = absurd cc
no_last (x ∷ front) last e = absurd cc

-- what all elements have may be weakened
pub weaken : {X : Type 0} (P Q : X → Type 0) → ((x : X) → P x → Q x) → (xs : List X) → AllByRecursion P xs → AllByRecursion Q xs
weaken P Q f [] h = tt
weaken P Q f (x ∷ xs) h = (f x h.0, weaken P Q f xs h.1)
