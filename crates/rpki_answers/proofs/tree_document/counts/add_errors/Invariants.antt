use Rattle.std.proofs.Common.{[], map, take}
use Rattle.rpki_document.specs.Building.{Adds}
use Rattle.rpki_answers.specs.TreeDocuments.{error_node}
use Rattle.rpki_answers.proofs.tree_document.counts.add_errors.Given as goal

-- the lines so far
abbrev pub invariant-loop-name : goal.invariant-loop-name
invariant-loop-name l = Adds (map (λ n. error_node l.rows n.now) (take l.name-index l.name-items)) [] l.each.items
