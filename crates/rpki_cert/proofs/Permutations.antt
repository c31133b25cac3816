-- A permutation of the old pieces and of others that are passed over has the counts of a
-- rearrangement.
use Rattle.std.specs.List.{AllByRecursion}
use Rattle.std.proofs.Common.{ℕ, List, [], ◌∷◌, ◌++◌, ◌≡◌, ◌≤◌, ◌⊎◌, IsPermutation, bytes_eq, refl, sym, subst, arith, inl, inr}
use Rattle.std.proofs.lemmas.Bool.{cases_Bool}
use Rattle.std.proofs.lemmas.List.Sorted.{sum_by-IsPermutation}
use Rattle.std.proofs.lemmas.List.Sums.{sum_by-cons, sum_by-append}
use Rattle.std.proofs.lemmas.Slice.Eq.{bytes_eq-Decides}
use Rattle.rpki_cert.specs.Rearranged.{times, IsPassedOver}
use Rattle.rpki_cert.proofs.Reordering.{hit}

-- what stands among strings that all have P has P
stands : (P : List ℕ → Type 0) (e : List ℕ) (elements : List (List ℕ)) → AllByRecursion P elements → (times e elements ≡ 0) ⊎ P e
stands P e [] h = inl refl
stands P e (x ∷ elements) h =
    elim (cases_Bool (bytes_eq e x)) [
      | inl t ↦ inr (subst P (sym ((bytes_eq-Decides e x).0 t)) h.0)
      | inr f ↦ elim (stands P e elements h.1) [
        | inl none ↦ let miss : hit e x ≡ 0 = rw f in inl (omega (arith, sum_by-cons (hit e) x elements, miss, none))
        | inr p ↦ inr p
      ]
    ]

-- in a rearrangement each piece stands as often as before, or is passed over and stands at least so
-- often
pub counts_of : (old further new : List (List ℕ)) → AllByRecursion IsPassedOver further → IsPermutation (old ++ further) new
    → (e : List ℕ) → (times e new ≡ times e old) ⊎ (IsPassedOver e × (times e old ≤ times e new))
counts_of old further new passed p e =
    let moved = sum_by-IsPermutation (hit e) (old ++ further) new p in
    let joined = sum_by-append (hit e) old further in
    elim (stands IsPassedOver e further passed) [
      | inl none ↦ inl (omega (arith, moved, joined, none))
      | inr over ↦ inr (over, omega (arith, moved, joined))
    ]
