use Rattle.std.proofs.Common.{◌<◌, ℕ}
use Rattle.rpki_verdicts.specs.Searches.{HasKeyAt}
use Rattle.rpki_verdicts.proofs.search.first_keyed.Given as goal

-- no earlier certificate is such
abbrev pub invariant-loop-place : goal.invariant-loop-place
invariant-loop-place l = (k : ℕ) → k < l.place → HasKeyAt l.tree l.key l.accepted k → ⊥
