use Rattle.std.proofs.Common.{[], map, take}
use Rattle.rpki_document.specs.Building.{Adds}
use Rattle.rpki_answers.specs.TreeDocuments.{tal_node}
use Rattle.rpki_answers.proofs.tree_document.heads.add_tals.Given as goal

-- the heads so far
abbrev pub invariant-loop-part : goal.invariant-loop-part
invariant-loop-part l = Adds (map tal_node (take l.part-index l.part-items)) [] l.each.items
