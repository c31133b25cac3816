use Rattle.std.proofs.Common.{map, take}
use Rattle.rpki_document.specs.Building.{Adds}
use Rattle.rpki_answers.specs.TreeDocuments.{above_nodes}
use Rattle.rpki_answers.proofs.tree_document.accepted.add_names.Given as goal

-- the names so far
abbrev pub invariant-loop-place : goal.invariant-loop-place
invariant-loop-place l = Adds (above_nodes (map (λ f. f.now) l.certs) (take l.place-index l.places)) l.fn.parts.items l.parts.items
