-- What holds of the items of a list, one more at a time.
use Rattle.std.specs.Prelude.{Any}
use Rattle.std.proofs.Common.{◌≡◌, ◌⊎◌, ℕ, ◌+◌, ◌<◌, zero, suc, List, [], ◌∷◌, ◌++◌, length, map, take, get_or, sym}
use Rattle.std.proofs.Common.{subst, arith, ap, refl, inl, inr}
use Rattle.std.specs.List.{AllByRecursion}
use Rattle.std.proofs.lemmas.List.{take_more, map-append}
use Rattle.std.proofs.lemmas.List.Elements.{Contains-append_cases, Contains-append_left, Contains-append_right}
use Rattle.rpki_c.specs.Strings.{AreKeptAmong}

pub map_more : {A B : Type 0} (f : A → B) (xs : List A) (i : ℕ) (d : A) → i < length xs →
    map f (take (i + 1) xs) ≡ map f (take i xs) ++ f (get_or xs i d) ∷ []
map_more f xs i d within = subst (λ l. map f l ≡ map f (take i xs) ++ f (get_or xs i d) ∷ [])
    (sym (take_more xs i d within)) (map-append f (take i xs) (get_or xs i d ∷ []))

pub all_push : {A : Type 0} (P : A → Type 0) (xs : List A) (x : A) → AllByRecursion P xs → P x →
    AllByRecursion P (xs ++ x ∷ [])
all_push P [] x all h = (h, tt)
all_push P (y ∷ ys) x all h = (all.0, all_push P ys x all.1 h)

pub all_more : {A : Type 0} (P : A → Type 0) (xs : List A) (i : ℕ) (d : A) → i < length xs →
    AllByRecursion P (take i xs) → P (get_or xs i d) → AllByRecursion P (take (i + 1) xs)
all_more P xs i d within all h = subst (AllByRecursion P) (sym (take_more xs i d within))
    (all_push P (take i xs) (get_or xs i d) all h)

-- where it doesn't hold of one, it doesn't hold of all
pub not_at : {A : Type 0} (P : A → Type 0) (xs : List A) (i : ℕ) (d : A) → i < length xs → (P (get_or xs i d) → ⊥) →
    AllByRecursion P xs → ⊥
not_at P [] i d within not all = absurd (omega (arith, within))
not_at P (x ∷ xs) zero d within not all = not all.0
not_at P (x ∷ xs) (suc i) d within not all = not_at P xs i d (omega (arith, within)) not all.1

-- one of them, and one more
module _ {A : Type 0} (P : A → Type 0) (xs : List A) (x : A) where
  pub any_front : Any P xs → Any P (xs ++ x ∷ [])
  any_front (k, y, low, is, p) =
      let (j, below, at) = Contains-append_left xs (x ∷ []) y (k, low, is) in (j, y, below, at, p)

  pub any_last : P x → Any P (xs ++ x ∷ [])
  any_last p = let (j, below, at) = Contains-append_right xs (x ∷ []) x (0, omega arith, refl) in (j, x, below, at, p)

  pub any_split : Any P (xs ++ x ∷ []) → Any P xs ⊎ P x
  any_split (k, y, low, is, p) = elim (Contains-append_cases xs (x ∷ []) y (k, low, is)) [
    | inl (j, below, at) ↦ inl (j, y, below, at, p)
    | inr (zero, below, at) ↦ inr (subst P (sym at) p)
    | inr (suc j, below, at) ↦ absurd (omega (arith, below))
  ]

-- one string more, of which nothing or something is kept
module _ {A : Type 0} (MayPass : List ℕ → Type 0) (Is : List ℕ → A → Type 0) where
  pub pass_push : (strings : List (List ℕ)) (kept : List A) (octets : List ℕ) → AreKeptAmong MayPass Is strings kept →
      MayPass octets → AreKeptAmong MayPass Is (strings ++ octets ∷ []) kept
  pass_push [] kept octets are passes = inl (passes, are)
  pass_push (s ∷ strings) kept octets (inl (p, are)) passes = inl (p, pass_push strings kept octets are passes)
  pass_push (s ∷ strings) kept octets (inr (y, others, e, is, are)) passes =
      inr (y, others, e, is, pass_push strings others octets are passes)

  pub keep_push : (strings : List (List ℕ)) (kept : List A) (octets : List ℕ) (x : A) →
      AreKeptAmong MayPass Is strings kept → Is octets x →
      AreKeptAmong MayPass Is (strings ++ octets ∷ []) (kept ++ x ∷ [])
  keep_push [] kept octets x are it = inr (x, [], ap (λ (ks : List A). ks ++ x ∷ []) are, it, refl)
  keep_push (s ∷ strings) kept octets x (inl (p, are)) it = inl (p, keep_push strings kept octets x are it)
  keep_push (s ∷ strings) kept octets x (inr (y, others, e, is, are)) it =
      inr (y, others ++ x ∷ [], ap (λ (ks : List A). ks ++ x ∷ []) e, is, keep_push strings others octets x are it)
