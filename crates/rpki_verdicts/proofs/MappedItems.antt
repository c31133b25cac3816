-- What a loop over a list says of what a function gives of each item.
use Rattle.std.proofs.Common.{◌≡◌, ◌+◌, ◌<◌, ◌≤◌, ℕ, List, [], ◌∷◌, ◌++◌, length, take, get_or, map, sym, ap, subst, ◌∙◌}
use Rattle.std.proofs.lemmas.List.{length-map, get_or-map, map-append, map_more}

module _ {X Y : Type 0} (f : X → Y) (xs : List X) (i : ℕ) where
  -- there is a further item
  pub mapped_low : i < length xs → i < length (map f xs)
  mapped_low low = subst (λ (n : ℕ). i < n) (sym (length-map xs f)) low

  -- there is none
  pub mapped_high : length xs ≤ i → length (map f xs) ≤ i
  mapped_high high = subst (λ (n : ℕ). n ≤ i) (sym (length-map xs f)) high

  -- it is this one
  pub mapped_there : (x : X) → i < length xs → x ≡ get_or xs i x → f x ≡ get_or (map f xs) i (f x)
  mapped_there x low there = ap f there ∙ sym (get_or-map f xs i x (f x) low)

-- what two lists give alike, one item more of each
pub mapped_both : {X Y Z : Type 0} (f : X → Z) (g : Y → Z) (xs : List X) (ys : List Y) (i : ℕ) (x : X) (d : Y) →
    i < length ys → map f xs ≡ map g (take i ys) → f x ≡ g (get_or ys i d) →
    map f (xs ++ x ∷ []) ≡ map g (take (i + 1) ys)
mapped_both f g xs ys i x d low same is =
    map-append f xs (x ∷ []) ∙ ap (λ (l : List _). l ++ f x ∷ []) same ∙ ap (λ (z : _). map g (take i ys) ++ z ∷ [])
    is ∙ sym (map_more g ys i d low)
