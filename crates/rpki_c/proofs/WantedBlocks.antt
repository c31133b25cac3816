-- The blocks of ranges, one more at a time.
use Rattle.std.proofs.Common.{◌≡◌, ℕ, ◌+◌, ◌<◌, ◌≤◌, zero, suc, List, [], ◌∷◌, length, map, take, get_or, sym}
use Rattle.std.proofs.Common.{subst, arith}
use Rattle.rpki_blocks.specs.Sets.{Block, between}
use Rattle.rpki_c.specs.WantedQuestions.{AreOrdered}
use Rattle.rpki_c.proofs.OneMore.{all_push, map_more}

-- a block with these ends
pub with_ends : (b : Block) (low high : ℕ) → b.min ≡ low → b.max ≡ high → b ≡ between low high
with_ends b low high p q = λ i. record { min = p i; max = q i }

module _ {R : Type 0} (span : R → Block) where
  pub ordered_more : (rs : List R) (i : ℕ) (d : R) → i < length rs → AreOrdered (map span (take i rs)) →
      (span (get_or rs i d)).min ≤ (span (get_or rs i d)).max → AreOrdered (map span (take (i + 1) rs))
  ordered_more rs i d within all h = subst AreOrdered (sym (map_more span rs i d within))
      (all_push (λ b. b.min ≤ b.max) (map span (take i rs)) (span (get_or rs i d)) all h)

  pub disordered_at : (rs : List R) (i : ℕ) (d : R) → i < length rs →
      (span (get_or rs i d)).max < (span (get_or rs i d)).min → AreOrdered (map span rs) → ⊥
  disordered_at [] i d within back all = absurd (omega (arith, within))
  disordered_at (r ∷ rs) zero d within back all = omega (arith, back, all.0)
  disordered_at (r ∷ rs) (suc i) d within back all = disordered_at rs i d (omega (arith, within)) back all.1
