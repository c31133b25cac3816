-- What is stated of the comparisons of URIs.
use Rattle.std.specs.Prelude.{List, ℕ}

-- relates is an equivalence among the texts that P holds of
pub record IsEquivalence (P : List ℕ → Type 0) (relates : List ℕ → List ℕ → Type 0) : Type 0 where
  pub reflexive : (x : List ℕ) → P x → relates x x
  pub symmetric : (x y : List ℕ) → relates x y → relates y x
  pub transitive : (x y z : List ℕ) → relates x y → relates y z → relates x z
