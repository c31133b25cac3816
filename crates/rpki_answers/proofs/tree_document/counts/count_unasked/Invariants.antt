use Rattle.std.proofs.Common.{◌≡◌, take}
use Rattle.rpki_answers.specs.TreeDocuments.{unasked_of}
use Rattle.rpki_answers.proofs.tree_document.counts.count_unasked.Given as goal

-- the keys so far
abbrev pub invariant-loop-row : goal.invariant-loop-row
invariant-loop-row l = l.keys.keys ≡ unasked_of (take l.row-index l.rows)
