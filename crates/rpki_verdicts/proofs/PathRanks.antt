-- How the ranks of paths stand.
use Rattle.std.specs.Cmp.{IsStrictWeakOrder, IsTotalOrder}
use Rattle.std.specs.Cmp.Lexicographic.{slice_cmp}
use Rattle.std.specs.List.{AllByRecursion}
use Rattle.std.specs.List.Sorted.{IsSortedBy}
use Rattle.std.specs.Ordering.{is_gt, is_lt, nat_cmp, ordering_reverse, ordering_then}
use Rattle.std.specs.declared.cmp.Ordering.{Ordering}
use Rattle.std.specs.declared.cmp.Ordering.TheVariants.{Less, Equal, Greater}
use Rattle.std.specs.Prelude.{Bool, false}
use Rattle.std.proofs.Common.{◌≡◌, ◌≤◌, ◌<◌, ◌∙◌, ℕ, suc, List, [], ◌∷◌, length, get_or, refl, sym, ap, arith}
use Rattle.std.proofs.lemmas.Bool.{false≢true}
use Rattle.std.proofs.lemmas.Cmp.{back_total, lists_total, nat_cmp_total, nat_list_cmp_total, on_total, then_total}
use Rattle.std.proofs.lemmas.List.Sorted.{sorted_far}
use Rattle.std.proofs.lemmas.Map.Lookups.{exact_bytes, exact_unsigned}
use Rattle.rpki_verdicts.specs.ShownPaths.{Rank, rank_order}

-- ---- the order

pub rank_total : IsTotalOrder rank_order
rank_total =
    then_total (then_total (on_total (λ (r : Rank). r.named) (back_total nat_cmp_total))
    (on_total (λ (r : Rank). length r.cas) nat_cmp_total))
    (on_total (λ (r : Rank). r.cas) (lists_total nat_list_cmp_total))

both_equal : (a b : Ordering) → ordering_then a b ≡ Equal → (a ≡ Equal) × (b ≡ Equal)
both_equal Less b e = absurd (false≢true (sym (ap is_lt e)))
both_equal Equal b e = (refl, e)
both_equal Greater b e = absurd (false≢true (sym (ap is_gt e)))

exact_lists : (xs ys : List (List ℕ)) → slice_cmp (slice_cmp nat_cmp) xs ys ≡ Equal → xs ≡ ys
exact_lists [] [] e = refl
exact_lists [] (y ∷ ys) e = absurd (false≢true (sym (ap is_lt e)))
exact_lists (x ∷ xs) [] e = absurd (false≢true (sym (ap is_gt e)))
exact_lists (x ∷ xs) (y ∷ ys) e =
    let both = both_equal (slice_cmp nat_cmp x y) (slice_cmp (slice_cmp nat_cmp) xs ys) e in
    let first = exact_bytes x y both.0 in
    let more = exact_lists xs ys both.1 in
    cc

-- ranks that tie are one
pub rank_exact : (r s : Rank) → rank_order r s ≡ Equal → r ≡ s
rank_exact r s e =
    let numbers = ordering_then (nat_cmp s.named r.named) (nat_cmp (length r.cas) (length s.cas)) in
    let both = both_equal numbers (slice_cmp (slice_cmp nat_cmp) r.cas s.cas) e in
    let front = both_equal (nat_cmp s.named r.named) (nat_cmp (length r.cas) (length s.cas)) both.0 in
    let same : r.named ≡ s.named = sym (exact_unsigned s.named r.named front.0) in
    let cas : r.cas ≡ s.cas = exact_lists r.cas s.cas both.1 in
    λ i. record { named = same i; cas = cas i }

-- neither of two goes before the other, so they are one
neither : (r s : Rank) (o : Ordering) → rank_order r s ≡ o → (rank_order r s ≡ Less → ⊥) → (rank_order s r ≡ Less → ⊥) → o ≡ Equal
neither r s Less is not_less not_back = absurd (not_less is)
neither r s Equal is not_less not_back = refl
neither r s Greater is not_less not_back = absurd (not_back (rank_total.antisymm s r ∙ ap ordering_reverse is))

pub one_rank : (r s : Rank) → (rank_order r s ≡ Less → ⊥) → (rank_order s r ≡ Less → ⊥) → r ≡ s
one_rank r s not_less not_back = rank_exact r s (neither r s (rank_order r s) refl not_less not_back)

-- a rank doesn't go before itself
pub not_before_itself : (r : Rank) → rank_order r r ≡ Less → ⊥
not_before_itself r is = false≢true (sym (ap is_gt (sym (ap ordering_reverse is)) ∙ ap is_gt (sym (rank_total.antisymm r r)) ∙ ap is_gt is))

-- ---- sorted lists

module _ {X : Type 0} (lt : X → X → Bool) where
  -- no later element is less than an earlier one
  abbrev pub Later : List X → Type 0
  Later [] = Unit {0}
  Later (x ∷ xs) = AllByRecursion (λ y. lt y x ≡ false) xs × Later xs

  none_less : (x : X) (xs : List X) → ((k : ℕ) → k < length xs → lt (get_or xs k x) x ≡ false) → AllByRecursion (λ y. lt y x ≡ false) xs
  none_less x [] h = tt
  none_less x (y ∷ ys) h = (h 0 (omega arith), none_less x ys (λ k low. h (suc k) (omega (arith, low))))

  later : (xs : List X) → ((i j : ℕ) (d : X) → i ≤ j → j < length xs → lt (get_or xs j d) (get_or xs i d) ≡ false) → Later xs
  later [] h = tt
  later (x ∷ xs) h = (
    none_less x xs (λ k low. h 0 (suc k) x (omega arith) (omega (arith, low))),
    later xs (λ i j d upto low. h (suc i) (suc j) d (omega (arith, upto)) (omega (arith, low))),
  )

  pub later_of_sorted : IsStrictWeakOrder lt → (xs : List X) → IsSortedBy lt xs → Later xs
  later_of_sorted order xs up = later xs (sorted_far lt order xs up)
