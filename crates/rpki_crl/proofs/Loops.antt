-- Loops over a list: what was gone over, and the first element that is found.
use Rattle.std.proofs.Common.{◌≡◌, ℕ, zero, suc, ◌<◌, List, [], ◌∷◌, ◌++◌, length, take, drop, get_or, map, ◌≤◌, refl}
use Rattle.std.proofs.Common.{sym, ap, subst, arith}
use Rattle.std.specs.List.{AllByRecursion}
use Rattle.rpki_der.specs.Sequences.{IsFirstWith}

module _ {X : Type 0} (P : X → Type 0) where
  -- one element more
  pub all_more : (xs : List X) (i j : ℕ) (x : X) → j ≡ suc i → i < length xs → x ≡ get_or xs i x → P x →
      AllByRecursion P (take i xs) → AllByRecursion P (take j xs)
  all_more xs i j x n h e p all = rw n (one_more xs i h e all)
    where
      one_more : (ys : List X) (k : ℕ) → k < length ys → x ≡ get_or ys k x → AllByRecursion P (take k ys) →
          AllByRecursion P (take (suc k) ys)
      one_more [] k h e all = absurd (omega arith)
      one_more (y ∷ ys) zero h e all = (subst P e p, tt)
      one_more (y ∷ ys) (suc k) h e all = (all.0, one_more ys k (omega arith) e all.1)

  -- all elements
  pub all_of : (xs : List X) (i : ℕ) → length xs ≡ i → AllByRecursion P (take i xs) → AllByRecursion P xs
  all_of [] i e all = tt
  all_of (y ∷ ys) zero e all = absurd (omega (arith, e))
  all_of (y ∷ ys) (suc i) e all = (all.0, all_of ys i (omega (arith, e)) all.1)

split_at : {X : Type 0} (xs : List X) (i : ℕ) (x : X) → i < length xs → x ≡ get_or xs i x → xs ≡ take i xs ++ x ∷ drop (suc i) xs
split_at [] i x h e = absurd (omega arith)
split_at (y ∷ ys) zero x h e = ap (λ z. z ∷ ys) (sym e)
split_at (y ∷ ys) (suc i) x h e = ap (λ (zs : List _). y ∷ zs) (split_at ys i x (omega arith) e)

-- the first with P
pub first_at : {X : Type 0} (P : X → Type 0) (xs : List X) (i : ℕ) (x : X) → i < length xs → x ≡ get_or xs i x → P x →
    AllByRecursion (λ y. P y → ⊥) (take i xs) → IsFirstWith P x xs
first_at P xs i x h e p none = record { before = take i xs; after = drop (suc i) xs; is = split_at xs i x h e; has = p; none_before = none }

-- ---- what was gone over

-- the first i + 1 elements are the first i and the next one
pub taken_more : {X Y : Type 0} (f : X → Y) (xs : List X) (i j : ℕ) (x : X) → j ≡ suc i → i < length xs →
    x ≡ get_or xs i x → map f (take j xs) ≡ map f (take i xs) ++ f x ∷ []
taken_more f xs i j x n h e = rw n (one_more xs i h e)
  where
    one_more : (ys : List _) (k : ℕ) → k < length ys → x ≡ get_or ys k x → map f (take (suc k) ys) ≡ map f (take k ys) ++ f x ∷ []
    one_more [] k h e = absurd (omega arith)
    one_more (y ∷ ys) zero h e = ap (λ z. f z ∷ []) (sym e)
    one_more (y ∷ ys) (suc k) h e = ap (λ (zs : List _). f y ∷ zs) (one_more ys k (omega arith) e)

-- at the end all elements are taken
pub taken_all : {X : Type 0} (xs : List X) (i : ℕ) → length xs ≤ i → take i xs ≡ xs
taken_all [] zero h = refl
taken_all [] (suc i) h = refl
taken_all (x ∷ xs) zero h = absurd (omega arith)
taken_all (x ∷ xs) (suc i) h = ap (λ (zs : List _). x ∷ zs) (taken_all xs i (omega arith))
