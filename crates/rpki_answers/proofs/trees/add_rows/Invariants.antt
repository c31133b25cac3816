use Rattle.std.proofs.Common.{map, take}
use Rattle.rpki_answers.specs.TreeDocuments.Steps.{AddsRows}
use Rattle.rpki_answers.proofs.trees.add_rows.Given as goal

-- the rows so far
abbrev pub invariant-loop-row : goal.invariant-loop-row
invariant-loop-row l = AddsRows l.only_rejected (map (λ f. f.now) l.certs) (take l.row-index l.rows) l.fn.files.items l.files.items
