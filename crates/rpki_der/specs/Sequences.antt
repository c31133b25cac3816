-- Values one after the other, to the end, and one or the first among them.
use Rattle.std.specs.List.{AllByRecursion}
use Rattle.std.specs.Prelude.{◌≡◌, ℕ, List, [], ◌∷◌, ◌++◌, Option, Some, None}
pub mod Reading

-- the text is the encodings of these values, one after the other
abbrev pub AreEncodings : {V : Type 0} → (V → List ℕ → Type 0) → List V → List ℕ → Type 0
AreEncodings encodes [] text = text ≡ []
AreEncodings encodes (v ∷ vs) text = (a : List ℕ) × (b : List ℕ) × encodes v a × AreEncodings encodes vs b × (text ≡ a ++ b)

-- ---- one of the values

-- x is the first element of xs with P: those before it are without
pub record IsFirstWith {X : Type 0} (P : X → Type 0) (x : X) (xs : List X) : Type 0 where
  pub before : List X
  pub after : List X
  pub is : xs ≡ before ++ x ∷ after
  pub has : P x
  pub none_before : AllByRecursion (λ y. P y → ⊥) before

-- What the first of the xs of which P says something gives; None where P says nothing of any
abbrev pub IsFirstOf : {X V : Type 0} → (X → V → Type 0) → Option V → List X → Type 0
IsFirstOf {X} {V} P None xs = AllByRecursion (λ x. (v : V) → P x v → ⊥) xs
IsFirstOf {X} {V} P (Some v) xs = (x : X) × IsFirstWith (λ y. (w : V) × P y w) x xs × P x v

-- there is none and v is None, or there is one and tells v
abbrev pub IsAtMostOne : {X V : Type 0} → (X → V → Type 0) → List X → Option V → Type 0
IsAtMostOne P [] v = v ≡ None
IsAtMostOne {X} {V} P (x ∷ []) v = (w : V) × P x w × (v ≡ Some w)
IsAtMostOne P (x ∷ y ∷ more) v = ⊥
