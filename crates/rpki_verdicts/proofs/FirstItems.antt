-- The first item of which something holds, where the items are what a function gives of others.
use Rattle.std.specs.Option.{option_map}
use Rattle.std.specs.Prelude.{Any, Option, Some, None, slice_get}
use Rattle.std.proofs.Common.{◌≡◌, ◌↔◌, ℕ, List, map, refl, sym, ap, subst, ◌∙◌}
use Rattle.std.proofs.lemmas.Option.{slice_get-map, slice_get-get_or, slice_get_within, get_or_from_slice_get}
use Rattle.rpki_verdicts.specs.GivenLocators.{IsFirstThat}

-- one of them
pub any_there : {X : Type 0} (P : X → Type 0) (xs : List X) (k : ℕ) (x : X) → slice_get xs k ≡ Some x → P x → Any P xs
any_there P xs k x is p = (k, x, slice_get_within xs k x is, get_or_from_slice_get xs k x x is, p)

-- the item of which there is an image
pub imaged : {X Y : Type 0} (f : X → Y) (o : Option X) (y : Y) → option_map f o ≡ Some y → (x : X) × (o ≡ Some x) × (f x ≡ y)
imaged f None y e = absurd cc
imaged f (Some x) y e = (x, refl, cc)

module _ {X Y : Type 0} (P : X → Type 0) (Q : Y → Type 0) (f : X → Y) (xs : List X) (same : (k : ℕ) (x : X) →
    slice_get xs k ≡ Some x → P x ↔ Q (f x)) where
  image : (k : ℕ) (y : Y) → slice_get (map f xs) k ≡ Some y → (x : X) × (slice_get xs k ≡ Some x) × (f x ≡ y)
  image k y is = imaged f (slice_get xs k) y (sym (slice_get-map f xs k) ∙ is)

  held : (k : ℕ) (y : Y) (is : slice_get (map f xs) k ≡ Some y) → Q y → P (image k y is).0
  held k y is q = (same k (image k y is).0 (image k y is).1).1 (subst Q (sym (image k y is).2) q)

  any_image : Any Q (map f xs) → Any P xs
  any_image h =
      let is : slice_get (map f xs) h.0 ≡ Some h.1 = slice_get-get_or (map f xs) h.0 h.1 h.2 ∙ ap (λ (y : Y). Some y) h.3 in
      any_there P xs h.0 (image h.0 h.1 is).0 (image h.0 h.1 is).1 (held h.0 h.1 is h.4)

  pub first_image : (o : Option ℕ) → IsFirstThat P xs o → IsFirstThat Q (map f xs) o
  first_image None none = λ any. none (any_image any)
  first_image (Some place) h = (
    f h.0,
    slice_get-map f xs place ∙ ap (option_map f) h.1,
    (same place h.0 h.1).0 h.2,
    (λ k low y is q. h.3 k low (image k y is).0 (image k y is).1 (held k y is q)),
  )
