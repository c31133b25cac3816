use Rattle.std.proofs.Common.{◌≡◌, ◌<◌, ℕ, slice_index_or}
use Rattle.rpki_files.specs.Flaws.{openings}
use Rattle.rpki_files.proofs.found.may_open.Given as goal

-- none of those so far is this one
abbrev pub invariant-loop-octet : goal.invariant-loop-octet
invariant-loop-octet l = (k : ℕ) → k < l.octet-index → slice_index_or (openings l.fn.is_list l.fn.part) k l.identifier ≡ l.identifier → ⊥
