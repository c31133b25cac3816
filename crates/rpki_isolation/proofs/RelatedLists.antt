-- Lists whose elements are related one by one.
use Rattle.std.specs.List.{AllZip}
use Rattle.std.specs.Prelude.{Contains}
use Rattle.std.proofs.Common.{List, [], ap, inl, inr, length, refl, subst, suc, sym, ◌∷◌, ◌≡◌}
use Rattle.rpki_folder.specs.Folders.{IsOnce}
use Rattle.rpki_folder.proofs.PickedLists.{first_or_further, further, in_front, in_none}

module _ {X Y : Type 0} (R : X → Y → Type 0) where
  -- each of some elements has one to which it is related
  pub related : (xs : List X) → ((x : X) → Contains xs x → (y : Y) × R x y) → (ys : List Y) × AllZip R xs ys
  related [] each = ([], tt)
  related (x ∷ xs) each =
      let one = each x (in_front x xs x refl) in
      let rest = related xs (λ z at. each z (further x xs z at)) in
      (one.0 ∷ rest.0, (one.1, rest.1))

  -- each has one before it
  pub zip_back : (xs : List X) (ys : List Y) → AllZip R xs ys → (y : Y) → Contains ys y → (x : X) × Contains xs x × R x y
  zip_back [] [] h y at = absurd (in_none y at)
  zip_back [] (z ∷ ys) h y at = absurd h
  zip_back (x ∷ xs) [] h y at = absurd h
  zip_back (x ∷ xs) (z ∷ ys) h y at = elim (first_or_further z ys y at) [
    | inl is ↦ (x, in_front x xs x refl, subst (λ (w : Y). R x w) is h.0)
    | inr more ↦ let r = zip_back xs ys h.1 y more in (r.0, further x xs r.0 r.1, r.2)
  ]

  -- and one behind it
  pub zip_on : (xs : List X) (ys : List Y) → AllZip R xs ys → (x : X) → Contains xs x → (y : Y) × Contains ys y × R x y
  zip_on [] [] h x at = absurd (in_none x at)
  zip_on [] (z ∷ ys) h x at = absurd h
  zip_on (w ∷ xs) [] h x at = absurd h
  zip_on (w ∷ xs) (z ∷ ys) h x at = elim (first_or_further w xs x at) [
    | inl is ↦ (z, in_front z ys z refl, subst (λ (v : X). R v z) is h.0)
    | inr more ↦ let r = zip_on xs ys h.1 x more in (r.0, further z ys r.0 r.1, r.2)
  ]

  -- they are as many
  pub zip_length : (xs : List X) (ys : List Y) → AllZip R xs ys → length xs ≡ length ys
  zip_length [] [] h = refl
  zip_length [] (y ∷ ys) h = absurd h
  zip_length (x ∷ xs) [] h = absurd h
  zip_length (x ∷ xs) (y ∷ ys) h = ap suc (zip_length xs ys h.1)

  -- and none stands twice among the second, if none does among the first
  pub zip_once : ((x z : X) (y : Y) → R x y → R z y → x ≡ z) → (xs : List X) (ys : List Y) → AllZip R xs ys → IsOnce xs → IsOnce ys
  zip_once one [] [] h once = tt
  zip_once one [] (y ∷ ys) h once = absurd h
  zip_once one (x ∷ xs) [] h once = absurd h
  zip_once one (x ∷ xs) (y ∷ ys) h once = (
    (λ at. let r = zip_back xs ys h.1 y at in once.0 (subst (λ (z : X). Contains xs z) (sym (one x r.0 y h.0 r.2)) r.1)),
    zip_once one xs ys h.1 once.1,
  )
