-- Lists in which no element stands twice.
use Rattle.std.specs.Prelude.{Contains}
use Rattle.std.proofs.Common.{◌≡◌, ◌<◌, ◌≤◌, ℕ, zero, suc, List, [], ◌∷◌, ◌++◌, length, take, get_or, refl, sym, ap}
use Rattle.std.proofs.Common.{subst, inl, inr, arith}
use Rattle.std.proofs.lemmas.List.{length-append}
use Rattle.std.proofs.lemmas.List.Elements.{Contains-get_or, Contains-append_cases, Contains-append_left}
use Rattle.std.proofs.lemmas.List.Elements.{Contains-append_right, Contains-push_cases}
use Rattle.rpki_folder.specs.Folders.{IsOnce}
use Rattle.rpki_folder.proofs.PickedLists.{in_none, in_front, further, first_or_further}

module _ {X : Type 0} where
  -- with one more that wasn't there
  pub once_push : (xs : List X) (x : X) → IsOnce xs → (Contains xs x → ⊥) → IsOnce (xs ++ x ∷ [])
  once_push [] x once never = ((λ at. in_none x at), tt)
  once_push (y ∷ xs) x once never = (
    (λ at. elim (Contains-push_cases xs x y at) [
      | inl h ↦ once.0 h
      | inr is ↦ never (in_front y xs x (sym is))
    ]),
    once_push xs x once.1 (λ at. never (further y xs x at)),
  )

  -- none stands in front of itself
  pub once_apart : (xs : List X) (i : ℕ) (d : X) → IsOnce xs → i < length xs → Contains (take i xs) (get_or xs i d) → ⊥
  once_apart [] i d once low at = absurd (omega (arith, low))
  once_apart (x ∷ xs) zero d once low at = in_none x at
  once_apart (x ∷ xs) (suc i) d once low at = elim (first_or_further x (take i xs) (get_or xs i d) at) [
    | inl is ↦ once.0 (subst (λ (y : X). Contains xs y) (sym is) (Contains-get_or xs i d (omega (arith, low))))
    | inr more ↦ once_apart xs i d once.1 (omega (arith, low)) more
  ]

  -- ---- how many

  pub record Cut (ys : List X) (x : X) : Type 0 where
    pub front : List X
    pub back : List X
    pub is : ys ≡ front ++ x ∷ back

  cut : (ys : List X) (x : X) → Contains ys x → Cut ys x
  cut [] x at = absurd (in_none x at)
  cut (y ∷ ys) x at = elim (first_or_further y ys x at) [
    | inl is ↦ record { front = []; back = ys; is = ap (λ (z : X). z ∷ ys) is }
    | inr more ↦ let c = cut ys x more in
        record { front = y ∷ c.front; back = c.back; is = ap (λ (zs : List X). y ∷ zs) c.is }
  ]

  -- without the element that was cut out
  without_it : (front back : List X) (x z : X) → (x ≡ z → ⊥) → Contains (front ++ x ∷ back) z →
      Contains (front ++ back) z
  without_it front back x z apart at = elim (Contains-append_cases front (x ∷ back) z at) [
    | inl h ↦ Contains-append_left front back z h
    | inr h ↦ elim (first_or_further x back z h) [
      | inl is ↦ absurd (apart is)
      | inr more ↦ Contains-append_right front back z more
    ]
  ]

  -- a list that has all elements of another is no shorter
  pub once_shorter : (xs ys : List X) → IsOnce xs → ((z : X) → Contains xs z → Contains ys z) → length xs ≤ length ys
  once_shorter [] ys once all = omega arith
  once_shorter (x ∷ xs) ys once all =
      let c = cut ys x (all x (in_front x xs x refl)) in
      let fewer : length xs ≤ length (c.front ++ c.back) = once_shorter xs (c.front ++ c.back) once.1
      (λ z at. without_it c.front c.back x z (λ is. once.0 (subst (λ (y : X). Contains xs y) (sym is) at))
      (subst (λ (l : List X). Contains l z) c.is (all z (further x xs z at)))) in
      omega (arith, fewer, ap length c.is, length-append c.front (x ∷ c.back), length-append c.front c.back)

  -- two of one set are as long
  pub once_length : (xs ys : List X) → IsOnce xs → IsOnce ys → ((z : X) → Contains xs z → Contains ys z) →
      ((z : X) → Contains ys z → Contains xs z) → length xs ≡ length ys
  once_length xs ys one other there back =
      let low = once_shorter xs ys one there in
      let high = once_shorter ys xs other back in
      omega (arith, low, high)
