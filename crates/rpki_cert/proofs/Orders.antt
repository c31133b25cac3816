-- Orders: what a table of the places seen says, and that an order names as many of each as there
-- are.
use Rattle.std.specs.List.{AllByRecursion, IsDistinct, list_any}
use Rattle.std.specs.Prelude.{nat_eq, ◌||◌}
use Rattle.std.specs.List.{sum_by}
use Rattle.std.proofs.Common.{◌≡◌, ◌≢◌, ℕ, zero, suc, ◌+◌, ◌<◌, ◌≤◌, Bool, true, false, List, [], ◌∷◌, ◌++◌, length}
use Rattle.std.proofs.Common.{get_or, take, set, replicate, add-one, refl, sym, ap, subst, ◌∙◌, arith, inl, inr}
use Rattle.std.proofs.lemmas.Bool.{cases_Bool, eq-eqb, eqb-true, or_parts}
use Rattle.std.proofs.lemmas.List.{get_or-set_same, get_or-set_other, get_or-replicate, get_or_default}
use Rattle.std.proofs.lemmas.List.{length-replicate, length-set, length-append, take_all}
use Rattle.std.proofs.lemmas.List.Sums.{sum_by-append, sum_by-cons}
use Rattle.std.proofs.lemmas.List.Folds.{list_any_more}
use Rattle.rpki_cert.specs.Rearranging.{IsOrder}

-- ---- all elements, one by one

-- what all elements have, the element at a place has
pub all_get : {X : Type 0} (P : X → Type 0) (xs : List X) (i : ℕ) (d : X) → i < length xs → AllByRecursion P xs → P (get_or xs i d)
all_get P [] i d h a = absurd (omega arith)
all_get P (x ∷ xs) zero d h a = a.0
all_get P (x ∷ xs) (suc i) d h a = all_get P xs i d (omega arith) a.1

-- what the first i elements have and the next one has, the first i + 1 have
pub all_more : {X : Type 0} (P : X → Type 0) (xs : List X) (i : ℕ) (d : X) → i < length xs →
    AllByRecursion P (take i xs) → P (get_or xs i d) → AllByRecursion P (take (suc i) xs)
all_more P [] i d h a p = absurd (omega arith)
all_more P (x ∷ xs) zero d h a p = (p, tt)
all_more P (x ∷ xs) (suc i) d h a p = (a.0, all_more P xs i d (omega arith) a.1 p)

-- what all elements and one more have, the longer list's elements have
pub all_now : {X : Type 0} (P : X → Type 0) (xs : List X) (x : X) → AllByRecursion P xs → P x → AllByRecursion P (xs ++ x ∷ [])
all_now P [] x h p = (p, tt)
all_now P (y ∷ xs) x h p = (h.0, all_now P xs x h.1 p)

-- ---- no element twice

-- an element that stands before
twice : (xs : List ℕ) (i : ℕ) → i < length xs → list_any (nat_eq (get_or xs i 0)) (take i xs) ≡ true → IsDistinct nat_eq xs → ⊥
unfolding IsDistinct
twice [] i h e d = omega arith
twice (x ∷ xs) zero h e d = cc
twice (x ∷ xs) (suc i) h e d =
    elim (cases_Bool (nat_eq (get_or xs i 0) x)) [
      | inl same ↦
          let is : get_or xs i 0 ≡ x = eqb-true (get_or xs i 0) x same in
          let apart : nat_eq x (get_or xs i 0) ≡ false = all_get (λ y. nat_eq x y ≡ false) xs i 0 (omega arith) d.0 in
          let found : nat_eq x (get_or xs i 0) ≡ true = eq-eqb x (get_or xs i 0) (sym is) in
          absurd cc
      | inr other ↦
          let later : list_any (nat_eq (get_or xs i 0)) (take i xs) ≡ true = rw other at e in
          twice xs i (omega arith) later d.1
    ]

flipped : (x y : ℕ) → nat_eq y x ≡ false → nat_eq x y ≡ false
flipped x y h =
    elim (cases_Bool (nat_eq x y)) [
      | inl same ↦ let there : nat_eq y x ≡ true = eq-eqb y x (sym (eqb-true x y same)) in absurd cc
      | inr other ↦ other
    ]

one_more : (xs : List ℕ) (i : ℕ) → i < length xs → IsDistinct nat_eq (take i xs) →
    list_any (nat_eq (get_or xs i 0)) (take i xs) ≡ false → IsDistinct nat_eq (take (suc i) xs)
unfolding IsDistinct
one_more [] i h d n = absurd (omega arith)
one_more (x ∷ xs) zero h d n = (tt, tt)
one_more (x ∷ xs) (suc i) h d n =
    let r = or_parts _ _ n in
    (all_more (λ y. nat_eq x y ≡ false) xs i 0 (omega arith) d.0 (flipped x (get_or xs i 0) r.0), one_more xs i (omega arith) d.1 r.1)

-- ---- the table of the places seen

-- the table says which of so many places stand among the first i of the order
abbrev pub HasSeen : ℕ → List Bool → List ℕ → ℕ → Type 0
HasSeen count seen order i = (place : ℕ) → place < count → get_or seen place false ≡ list_any (nat_eq place) (take i order)

-- nothing is amiss among the first i
pub record IsOrderSoFar (count : ℕ) (seen : List Bool) (order : List ℕ) (i : ℕ) : Type 0 where
  pub table : length seen ≡ count
  pub has_seen : HasSeen count seen order i
  pub places : AllByRecursion (λ place. place < count) (take i order)
  pub distinct : IsDistinct nat_eq (take i order)

or_true : (b : Bool) → (b || true) ≡ true
or_true true = refl
or_true false = refl

or_false : (b : Bool) → (b || false) ≡ b
or_false true = refl
or_false false = refl

seen_more : (count : ℕ) (seen : List Bool) (order : List ℕ) (i : ℕ) → i < length order → length seen ≡ count →
    get_or order i 0 < count → HasSeen count seen order i →
    HasSeen count (set seen (get_or order i 0) true) order (i + 1)
seen_more count seen order i inside table low h place below =
    let more = list_any_more (nat_eq place) order i 0 inside in
    elim (cases_Bool (nat_eq place (get_or order i 0))) [
      | inl same ↦
          let is : place ≡ get_or order i 0 = eqb-true place (get_or order i 0) same in
          let here : get_or (set seen (get_or order i 0) true) place false ≡ true =
          rw is (get_or-set_same seen (get_or order i 0) true false (omega arith)) in
          here ∙ sym (more ∙ rw same (or_true (list_any (nat_eq place) (take i order))))
      | inr other ↦
          let apart : place ≢ get_or order i 0 = λ e. let yes : nat_eq place (get_or order i 0) ≡ true =
          eq-eqb place (get_or order i 0) e in cc in
          get_or-set_other seen (get_or order i 0) place true false apart ∙ h place below ∙
          sym (more ∙ rw other (or_false (list_any (nat_eq place) (take i order))))
    ]

-- before the first place nothing was seen
pub order_starts : (count : ℕ) (seen : List Bool) (order : List ℕ) → seen ≡ replicate count false → IsOrderSoFar count seen order 0
unfolding IsDistinct
order_starts count seen order e = record {
  table = rw e (length-replicate count false);
  has_seen = λ place below. rw e (get_or-replicate count place false false below);
  places = tt;
  distinct = tt;
}

-- a place that is new is remembered
pub order_goes_on : (count : ℕ) (seen : List Bool) (order : List ℕ) (i : ℕ) → i < length order →
    get_or order i 0 < count → get_or seen (get_or order i 0) false ≡ false → IsOrderSoFar count seen order i →
    IsOrderSoFar count (set seen (get_or order i 0) true) order (i + 1)
order_goes_on count seen order i inside low unseen h = record {
  table = length-set seen (get_or order i 0) true ∙ h.table;
  has_seen = seen_more count seen order i inside h.table low h.has_seen;
  places = rw (add-one i) (all_more (λ place. place < count) order i 0 inside h.places low);
  distinct = rw (add-one i) (one_more order i inside h.distinct (sym (h.has_seen (get_or order i 0) low) ∙ unseen));
}

-- at the end every place was seen once
pub order_ends : (count : ℕ) (seen : List Bool) (order : List ℕ) (i : ℕ) → length order ≡ count → length order ≤ i →
    IsOrderSoFar count seen order i → IsOrder count order
order_ends count seen order i many all h = record {
  as_many = many;
  places = subst (λ (s : List ℕ). AllByRecursion (λ place. place < count) s) (take_all i order all) h.places;
  distinct = subst (λ (s : List ℕ). IsDistinct nat_eq s) (take_all i order all) h.distinct;
}

-- an order has no place beyond the extensions
pub place_too_high : (count : ℕ) (order : List ℕ) (i : ℕ) → i < length order → count ≤ get_or order i 0 → IsOrder count order → ⊥
place_too_high count order i inside high o = let low = all_get (λ place. place < count) order i 0 inside o.places in omega (arith, low)

-- an order has no place twice
pub place_twice : (count : ℕ) (seen : List Bool) (order : List ℕ) (i : ℕ) → i < length order →
    get_or order i 0 < count → get_or seen (get_or order i 0) true ≡ true → IsOrderSoFar count seen order i →
    IsOrder count order → ⊥
place_twice count seen order i inside low was h o =
    let same = get_or_default seen (get_or order i 0) false true (omega (arith, low, h.table)) in
    twice order i inside (sym (h.has_seen (get_or order i 0) low) ∙ same ∙ was) o.distinct

-- ---- each place is named once

-- the sum of f over the numbers below n
abbrev pub sum_below : (ℕ → ℕ) → ℕ → ℕ
sum_below f zero = 0
sum_below f (suc n) = sum_below f n + f n

split_at : (n : ℕ) (xs : List ℕ) → list_any (nat_eq n) xs ≡ true → (a : List ℕ) × (b : List ℕ) × (xs ≡ a ++ n ∷ b)
split_at n [] h = absurd cc
split_at n (x ∷ xs) h =
    elim (cases_Bool (nat_eq n x)) [
      | inl same ↦ ([], xs, ap (λ (y : ℕ). y ∷ xs) (sym (eqb-true n x same)))
      | inr other ↦
          let later : list_any (nat_eq n) xs ≡ true = rw other at h in
          let r = split_at n xs later in
          (x ∷ r.0, r.1, ap (λ (ys : List ℕ). x ∷ ys) r.2)
    ]

all_outside : (P : ℕ → Type 0) (a : List ℕ) (n : ℕ) (b : List ℕ) → AllByRecursion P (a ++ n ∷ b) → P n × AllByRecursion P (a ++ b)
all_outside P [] n b h = h
all_outside P (x ∷ a) n b h = let r = all_outside P a n b h.1 in (r.0, (h.0, r.1))

-- without n they are distinct, and none is n
distinct_outside : (a : List ℕ) (n : ℕ) (b : List ℕ) → IsDistinct nat_eq (a ++ n ∷ b) →
    IsDistinct nat_eq (a ++ b) × AllByRecursion (λ y. nat_eq n y ≡ false) (a ++ b)
unfolding IsDistinct
distinct_outside [] n b h = (h.1, h.0)
distinct_outside (x ∷ a) n b h =
    let r = distinct_outside a n b h.1 in
    let s = all_outside (λ y. nat_eq x y ≡ false) a n b h.0 in
    ((s.1, r.0), (flipped n x s.0, r.1))

lower : (n : ℕ) (xs : List ℕ) → AllByRecursion (λ y. y < suc n) xs → AllByRecursion (λ y. nat_eq n y ≡ false) xs →
    AllByRecursion (λ y. y < n) xs
lower n [] below apart = tt
lower n (x ∷ xs) below apart =
    let not : n ≢ x = λ e. let yes : nat_eq n x ≡ true = eq-eqb n x e in let no = apart.0 in cc in
    (omega (arith, below.0, not), lower n xs below.1 apart.1)

none_is : (n : ℕ) (xs : List ℕ) → list_any (nat_eq n) xs ≡ false → AllByRecursion (λ y. nat_eq n y ≡ false) xs
none_is n [] h = tt
none_is n (x ∷ xs) h = let r = or_parts _ _ h in (r.0, none_is n xs r.1)

-- distinct numbers below n are at most n, and where they are n, they are all of these
all_places : (f : ℕ → ℕ) (n : ℕ) (xs : List ℕ) → AllByRecursion (λ y. y < n) xs → IsDistinct nat_eq xs →
    (length xs ≤ n) × (length xs ≡ n → sum_by f xs ≡ sum_below f n)
all_places f zero [] below distinct = (omega arith, λ e. refl)
all_places f zero (x ∷ xs) below distinct = absurd (omega (arith, below.0))
all_places f (suc n) xs below distinct =
    elim (cases_Bool (list_any (nat_eq n) xs)) [
      | inl named ↦
          let (a, b, is) = split_at n xs named in
          let outside = distinct_outside a n b (subst (λ (ys : List ℕ). IsDistinct nat_eq ys) is distinct) in
          let lowest = all_outside (λ y. y < suc n) a n b (subst (λ (ys : List ℕ). AllByRecursion (λ y. y < suc n) ys) is below) in
          let r = all_places f n (a ++ b) (lower n (a ++ b) lowest.1 outside.1) outside.0 in
          let long : length xs ≡ suc (length (a ++ b)) = ap length is ∙ omega (arith, length-append a (n ∷ b), length-append a b) in
          let sums : sum_by f xs ≡ sum_by f (a ++ b) + f n = ap (sum_by f) is ∙
          omega (arith, sum_by-append f a (n ∷ b), sum_by-cons f n b, sum_by-append f a b) in
          (omega (arith, long, r.0), λ e. let same = r.1 (omega (arith, long, e)) in omega (arith, sums, same))
      | inr unnamed ↦
          let r = all_places f n xs (lower n xs below (none_is n xs unnamed)) distinct in
          (omega (arith, r.0), λ e. absurd (omega (arith, r.0, e)))
    ]

-- a sum over an order is one over all places
pub order_sums : (f : ℕ → ℕ) (count : ℕ) (order : List ℕ) → IsOrder count order → sum_by f order ≡ sum_below f count
order_sums f count order o = (all_places f count order o.places o.distinct).1 o.as_many

-- the sum over the places of a list is the sum over its elements
below_more : (f g : ℕ → ℕ) (n : ℕ) → ((i : ℕ) → f i ≡ g i) → sum_below f n ≡ sum_below g n
below_more f g zero h = refl
below_more f g (suc n) h = omega (arith, below_more f g n h, h n)

from_first : (f : ℕ → ℕ) (n : ℕ) → sum_below f (suc n) ≡ f 0 + sum_below (λ i. f (suc i)) n
from_first f zero = omega arith
from_first f (suc n) = omega (arith, from_first f n)

-- a sum over all places is one over the elements
pub sum_of_places : {X : Type 0} (f : X → ℕ) (xs : List X) (d : X) → sum_below (λ i. f (get_or xs i d)) (length xs) ≡ sum_by f xs
sum_of_places f [] d = refl
sum_of_places f (x ∷ xs) d =
    let first : sum_below (λ i. f (get_or (x ∷ xs) i d)) (suc (length xs)) ≡ f x + sum_below (λ i. f (get_or xs i d))
    (length xs) = from_first (λ i. f (get_or (x ∷ xs) i d)) (length xs) in
    first ∙ omega (arith, sum_of_places f xs d, sum_by-cons f x xs)
