-- A loop that tests conditions one after the other.
use Rattle.std.specs.Prelude.{Result, Ok, Err}
use Rattle.std.specs.List.{AllByRecursion}
use Rattle.std.proofs.Common.{◌≡◌, ℕ, ◌+◌, ◌<◌, ◌≤◌, List, [], ◌∷◌, length, drop, get_or, refl, sym, ap, subst, ◌∙◌, inl, inr, add-one}
use Rattle.std.proofs.Math.Seq.{drop-cons}
use Rattle.std.proofs.lemmas.List.{drop_all}
use Rattle.rpki_parts.specs.Conditions.{IsFirstFalse, Tests}

module _ {X : Type 0} (P : X → Type 0) where
  -- what the conditions from i on give is what all give
  abbrev pub Decides : List X → ℕ → Type 0
  Decides xs i = (r : Result (Unit {0}) X) → Tests P (drop i xs) r → Tests P xs r

  at : (xs : List X) (i : ℕ) (d : X) → i < length xs → drop i xs ≡ get_or xs i d ∷ drop (i + 1) xs
  at xs i d p = rw add-one (drop-cons xs i d p)

  first_holds : (x : X) (xs : List X) → P x → (r : Result (Unit {0}) X) → Tests P xs r → Tests P (x ∷ xs) r
  first_holds x xs h (Ok v) t = (h, t)
  first_holds x xs h (Err e) t = inr (h, t)

  module _ (xs items : List X) (same : items ≡ xs) (i : ℕ) (d : X) (go : Decides xs i) where
    module _ (p : i < length items) where
      inside : i < length xs
      inside = subst (λ (ys : List X). i < length ys) same p

      -- a condition that doesn't hold, behind those that do, is the first that doesn't
      pub fails : (P (get_or items i d) → ⊥) → IsFirstFalse P xs (get_or items i d)
      fails not_p =
          let x = get_or items i d in
          let is : get_or xs i d ≡ x = ap (λ (ys : List X). get_or ys i d) (sym same) in
          let now : drop i xs ≡ x ∷ drop (i + 1) xs = at xs i d inside ∙ ap (λ (y : X). y ∷ drop (i + 1) xs) is in
          go (Err x) (subst (λ (ys : List X). Tests {T = Unit {0}} P ys (Err x)) (sym now) (inl (refl, not_p)))

      -- a condition that holds, behind those that do, leaves the others to decide
      pub holds : P (get_or items i d) → Decides xs (i + 1)
      holds h r t =
          let x = get_or items i d in
          let is : get_or xs i d ≡ x = ap (λ (ys : List X). get_or ys i d) (sym same) in
          let now : drop i xs ≡ x ∷ drop (i + 1) xs = at xs i d inside ∙ ap (λ (y : X). y ∷ drop (i + 1) xs) is in
          go r (subst (λ (ys : List X). Tests P ys r) (sym now) (first_holds x (drop (i + 1) xs) h r t))

    -- at the end all conditions hold
    pub all_hold : length items ≤ i → AllByRecursion P xs
    all_hold p =
        let unit : Unit {0} = tt in
        let end : drop i xs ≡ [] = drop_all i xs (subst (λ (ys : List X). length ys ≤ i) same p) in
        go (Ok unit) (subst (λ (ys : List X). Tests P ys (Ok unit)) (sym end) unit)
