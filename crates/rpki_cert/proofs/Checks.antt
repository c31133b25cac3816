-- Conditions that are tested one after the other: in parts, by equivalent ones, and with what verdict.
use Rattle.std.specs.Prelude.{Result, Ok, Err, IsOk}
use Rattle.std.specs.List.{AllByRecursion}
use Rattle.std.proofs.Common.{◌≡◌, ◌↔◌, List, [], ◌∷◌, ◌++◌, refl, sym, subst, ◌∙◌, inl, inr}
use Rattle.rpki_parts.specs.Conditions.{IsFirstFalse, Tests}

module _ {X : Type 0} (P : X → Type 0) where
  -- the first of a part is the first of all
  pub in_front : (xs ys : List X) (e : X) → IsFirstFalse P xs e → IsFirstFalse P (xs ++ ys) e
  in_front [] ys e h = absurd h
  in_front (x ∷ xs) ys e (inl h) = inl h
  in_front (x ∷ xs) ys e (inr h) = inr (h.0, in_front xs ys e h.1)

  -- where all before it hold
  pub behind : (xs ys : List X) (e : X) → AllByRecursion P xs → IsFirstFalse P ys e → IsFirstFalse P (xs ++ ys) e
  behind [] ys e all h = h
  behind (x ∷ xs) ys e all h = inr (all.0, behind xs ys e all.1 h)

  -- what all elements of both lists have, all of both together have
  pub together : (xs ys : List X) → AllByRecursion P xs → AllByRecursion P ys → AllByRecursion P (xs ++ ys)
  together [] ys all more = more
  together (x ∷ xs) ys all more = (all.0, together xs ys all.1 more)

  -- ---- the verdict is one

  pub first_not_all : (xs : List X) (e : X) → IsFirstFalse P xs e → AllByRecursion P xs → ⊥
  first_not_all [] e h all = h
  first_not_all (x ∷ xs) e (inl h) all = h.1 all.0
  first_not_all (x ∷ xs) e (inr h) all = first_not_all xs e h.1 all.1

  pub one_first : (xs : List X) (d e : X) → IsFirstFalse P xs d → IsFirstFalse P xs e → d ≡ e
  one_first [] d e h k = absurd h
  one_first (x ∷ xs) d e (inl h) (inl k) = h.0 ∙ sym k.0
  one_first (x ∷ xs) d e (inl h) (inr k) = absurd (h.1 k.0)
  one_first (x ∷ xs) d e (inr h) (inl k) = absurd (k.1 h.0)
  one_first (x ∷ xs) d e (inr h) (inr k) = one_first xs d e h.1 k.1

  -- a first that is false is one of them
  pub first_of_all : (Q : X → Type 0) (xs : List X) (e : X) → AllByRecursion Q xs → IsFirstFalse P xs e → Q e
  first_of_all Q [] e all h = absurd h
  first_of_all Q (x ∷ xs) e all (inl h) = subst Q (sym h.0) all.0
  first_of_all Q (x ∷ xs) e all (inr h) = first_of_all Q xs e all.1 h.1

  -- Ok is answered exactly where all hold
  pub ok_exactly : {T : Type 0} (xs : List X) (r : Result T X) → Tests P xs r → IsOk r ↔ AllByRecursion P xs
  ok_exactly xs (Ok v) t = ((λ ok. t), (λ all. refl))
  ok_exactly xs (Err e) t = ((λ ok. absurd (cc ok)), (λ all. absurd (first_not_all xs e t all)))

-- ---- equivalent conditions

module _ {X : Type 0} (P : X → Type 0) (Q : X → Type 0) where
  pub all_map : (xs : List X) → ((x : X) → P x → Q x) → AllByRecursion P xs → AllByRecursion Q xs
  all_map [] f all = tt
  all_map (x ∷ xs) f all = (f x all.0, all_map xs f all.1)

  pub first_map : (xs : List X) (x : X) → ((y : X) → P y ↔ Q y) → IsFirstFalse P xs x → IsFirstFalse Q xs x
  first_map [] x f h = absurd h
  first_map (y ∷ xs) x f (inl h) = inl (h.0, λ q. h.1 ((f y).1 q))
  first_map (y ∷ xs) x f (inr h) = inr ((f y).0 h.0, first_map xs x f h.1)

  pub tests_map : {T : Type 0} (xs : List X) (r : Result T X) → ((y : X) → P y ↔ Q y) → Tests P xs r → Tests Q xs r
  tests_map xs (Ok v) f t = all_map xs (λ y. (f y).0) t
  tests_map xs (Err e) f t = first_map xs e f t
