use Rattle.std.proofs.Common.{◌≡◌, ◌<◌, ℕ, slice_index_or}
use Rattle.rpki_files.proofs.places.is_among.Given as goal

-- none of those so far is this one
abbrev pub invariant-loop-other : goal.invariant-loop-other
invariant-loop-other l = (k : ℕ) → k < l.other-index → slice_index_or l.kinds k l.kind ≡ l.kind → ⊥
