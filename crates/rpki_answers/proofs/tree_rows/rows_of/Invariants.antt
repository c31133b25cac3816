use Rattle.std.proofs.Common.{◌≤◌, take}
use Rattle.rpki_answers.specs.TreeRows.{AreRowsFrom}
use Rattle.rpki_answers.proofs.tree_rows.rows_of.Given as goal

-- the rows so far
abbrev pub invariant-loop-file : goal.invariant-loop-file
invariant-loop-file l = record {
  few : l.place ≤ l.file-index;
  rows : AreRowsFrom l.trees 0 l.place (take l.file-index l.files) l.rows.items;
}
