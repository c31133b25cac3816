use Rattle.std.specs.Prelude.{count_by}
use Rattle.std.proofs.Common.{◌≡◌, take}
use Rattle.rpki_answers.specs.TreeDocuments.{has_word}
use Rattle.rpki_answers.proofs.tree_document.counts.count_of.Given as goal

abbrev pub invariant-loop-row : goal.invariant-loop-row
invariant-loop-row l = l.count ≡ count_by (has_word l.word) (take l.row-index l.rows)
