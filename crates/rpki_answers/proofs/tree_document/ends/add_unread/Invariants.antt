use Rattle.std.proofs.Common.{[], map, take}
use Rattle.rpki_document.specs.Building.{Adds}
use Rattle.rpki_document.specs.Documents.{characters, kept_node}
use Rattle.rpki_answers.proofs.tree_document.ends.add_unread.Given as goal

-- the names so far
abbrev pub invariant-loop-name : goal.invariant-loop-name
invariant-loop-name l = Adds (map (λ name. kept_node [] (characters name.now)) (take l.name-index l.unread)) [] l.names.items
