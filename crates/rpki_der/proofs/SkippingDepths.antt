-- What may be skipped under one bound of depth may be skipped under a greater one.
use Rattle.std.proofs.Common.{◌≡◌, ◌≤◌, ℕ, zero, suc, List, subst, inl, inr, arith}
use Rattle.std.proofs.lemmas.Bool.{cases_lt}
use Rattle.rpki_der.specs.Skipping.{IsSkippableWithin}
use Rattle.rpki_der.proofs.Lists.{weaken}

one_deeper : (d : ℕ) (b : List ℕ) → IsSkippableWithin d b → IsSkippableWithin (suc d) b
unfolding IsSkippableWithin
one_deeper zero b h = (h.0, inl h.1)
one_deeper (suc d) b h = (
  h.0,
  elim h.1 [
    | inl p ↦ inl p
    | inr r ↦ inr
        (r.0, r.1, weaken (IsSkippableWithin d) (IsSkippableWithin (suc d)) (one_deeper d) r.0 r.2)
  ],
)

-- what can be skipped at one depth can be skipped at a greater one
pub deeper : (d e : ℕ) (b : List ℕ) → d ≤ e → IsSkippableWithin d b → IsSkippableWithin e b
deeper d zero b l h = let same : d ≡ 0 = omega arith in subst (λ (n : ℕ). IsSkippableWithin n b) same h
deeper d (suc e) b l h =
    elim (cases_lt e d) [
      | inl lt ↦ let same : d ≡ suc e = omega arith in subst (λ (n : ℕ). IsSkippableWithin n b) same h
      | inr le ↦ one_deeper e b (deeper d e b le h)
    ]
