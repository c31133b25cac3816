use Rattle.std.proofs.Common.{map, take}
use Rattle.rpki_document.specs.Building.{AddsSome}
use Rattle.rpki_answers.specs.TreeDocuments.{AreOtherPaths}
use Rattle.rpki_answers.proofs.tree_document.accepted.add_others.Given as goal

-- the paths so far
abbrev pub invariant-loop-path : goal.invariant-loop-path
invariant-loop-path l = AddsSome (AreOtherPaths l.tree l.shown (map (λ path. path.now) (take l.path-index l.others)))
    l.fn.parts.items l.parts.items
