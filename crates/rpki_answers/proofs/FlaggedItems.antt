-- A flag that says whether each item that a loop has come to has a property.
use Rattle.std.specs.Prelude.{All, Some, IsTrue}
use Rattle.std.proofs.Common.{◌≡◌, ◌↔◌, ◌&&◌, ◌+◌, ◌<◌, ◌≤◌, ℕ, Bool, List, [], ◌∷◌, ◌++◌, length, take, get_or, sym, ap, subst, ◌∙◌}
use Rattle.std.proofs.lemmas.Bool.{and_from, and_parts}
use Rattle.std.proofs.lemmas.List.{take_more, take_all}
use Rattle.std.proofs.lemmas.List.Elements.{All-more, All-pop}

module _ {X : Type 0} (P : X → Type 0) where
  module _ (xs : List X) (i : ℕ) (x : X) (low : i < length xs) (there : x ≡ get_or xs i x) where
    all_with : All P (take i xs) → P x → All P (take (i + 1) xs)
    all_with all has = All-more P xs i x low all (subst P there has)

    parts_of_all : All P (take (i + 1) xs) → All P (take i xs) × P x
    parts_of_all all = All-pop P (take (i + 1) xs) (take i xs) (Some x)
        (take_more xs i x low ∙ ap (λ (y : X). take i xs ++ y ∷ []) (sym there)) all

    -- after one more
    pub flag_of_more : (so_far has : Bool) → (IsTrue so_far ↔ All P (take i xs)) → (IsTrue has ↔ P x) →
        IsTrue (so_far && has) ↔ All P (take (i + 1) xs)
    flag_of_more so_far has before here = (
      (λ both. let parts = and_parts so_far has both in all_with (before.0 parts.0) (here.0 parts.1)),
      (λ all. let parts = parts_of_all all in and_from so_far has (before.1 parts.0) (here.1 parts.1)),
    )

  -- after the last
  pub flag_of_all : (xs : List X) (i : ℕ) → length xs ≤ i → (flag : Bool) → (IsTrue flag ↔ All P (take i xs)) → IsTrue flag ↔ All P xs
  flag_of_all xs i high flag so_far = subst (λ (l : List X). IsTrue flag ↔ All P l) (take_all i xs high) so_far
