use Rattle.std.proofs.Common.{◌≡◌, ◌++◌, map, take}
use Rattle.rpki_document.specs.Building.{nodes_of}
use Rattle.rpki_answers.specs.ShownLists.{entry_node}
use Rattle.rpki_answers.proofs.showing.lists.add_first.Given as goal

-- the entries so far, and those that are left of so many, are the first of so many
abbrev pub invariant-loop-entry : goal.invariant-loop-entry
invariant-loop-entry l =
    nodes_of l.parts.items ++ map entry_node (take l.left l.entry-iterator)
    ≡ nodes_of l.fn.parts.items ++ map entry_node (take l.fn.count l.fn.revoked.entries)
