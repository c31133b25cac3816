use Rattle.std.specs.Prelude.{count_by}
use Rattle.std.proofs.Common.{◌≡◌, take}
use Rattle.rpki_answers.specs.TreeDocuments.{has_error}
use Rattle.rpki_answers.proofs.tree_document.counts.count_error.Given as goal

abbrev pub invariant-loop-row : goal.invariant-loop-row
invariant-loop-row l = l.count ≡ count_by (has_error l.name) (take l.row-index l.rows)
