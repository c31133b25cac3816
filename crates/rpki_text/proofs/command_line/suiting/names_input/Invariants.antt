use Rattle.std.specs.Prelude.{codes}
use Rattle.std.proofs.Common.{◌≡◌, ◌<◌, ℕ, map, slice_index_or}
use Rattle.rpki_text.proofs.command_line.suiting.names_input.Given as goal

-- none of those so far is that of standard input
abbrev pub invariant-loop-name : goal.invariant-loop-name
invariant-loop-name l = (k : ℕ) → k < l.name-index → slice_index_or (map (λ name. name.now) l.names) k (codes "-") ≡ codes "-" → ⊥
