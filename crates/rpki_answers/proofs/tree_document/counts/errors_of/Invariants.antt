use Rattle.std.proofs.Common.{◌≡◌, map, take}
use Rattle.rpki_answers.specs.TreeDocuments.{errors_of}
use Rattle.rpki_answers.proofs.tree_document.counts.errors_of.Given as goal

-- the errors so far
abbrev pub invariant-loop-row : goal.invariant-loop-row
invariant-loop-row l = map (λ n. n.now) l.names.items ≡ errors_of (take l.row-index l.rows)
