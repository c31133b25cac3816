-- What is said of each item, one after the other.
use Rattle.std.specs.List.{flat_map}
use Rattle.std.proofs.Common.{◌≡◌, ◌∙◌, ◌+◌, ◌<◌, ◌≤◌, ℕ, List, [], ◌∷◌, ◌++◌, length, take, get_or, sym, ap}
use Rattle.std.proofs.lemmas.Grind.{flat_map-append}
use Rattle.std.proofs.lemmas.List.{append-nil, take_more, take_all}

module _ {X A : Type 0} (f : X → List A) (xs : List X) (i : ℕ) where
  -- of one item more
  pub parts_more : (x : X) → i < length xs → x ≡ get_or xs i x → flat_map f (take (i + 1) xs) ≡ flat_map f (take i xs) ++ f x
  parts_more x low there =
      ap (λ (l : List X). flat_map f l) (take_more xs i x low ∙ ap (λ (y : X). take i xs ++ y ∷ []) (sym there))
      ∙ flat_map-append f (take i xs) (x ∷ [])
      ∙ ap (λ (l : List A). flat_map f (take i xs) ++ l) (append-nil (f x))

  -- of all
  pub parts_all : length xs ≤ i → flat_map f (take i xs) ≡ flat_map f xs
  parts_all high = ap (λ (l : List X). flat_map f l) (take_all i xs high)
