use Rattle.std.proofs.Common.{◌≡◌, ◌++◌, map, take}
use Rattle.rpki_document.specs.Building.{spans_of}
use Rattle.rpki_answers.specs.TreeDocuments.{below_spans}
use Rattle.rpki_answers.proofs.tree_document.accepted.push_below.Given as goal

-- the names so far
abbrev pub invariant-loop-place : goal.invariant-loop-place
invariant-loop-place l =
    spans_of l.pieces.items ≡ spans_of l.fn.pieces.items ++ below_spans (map (λ f. f.now) l.certs) (take l.place-index l.places)
