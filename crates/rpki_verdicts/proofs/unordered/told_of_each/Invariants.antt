use Rattle.std.specs.List.{AllZip}
use Rattle.std.proofs.Common.{map, take}
use Rattle.rpki_verdicts.specs.Trees.Steps.{IsCandidateTold}
use Rattle.rpki_verdicts.proofs.unordered.told_of_each.Given as goal

abbrev pub invariant-loop-candidate : goal.invariant-loop-candidate
invariant-loop-candidate l = AllZip (IsCandidateTold (map (λ f. f.now) l.certs)) (take l.candidate-index l.candidates) l.wrong.items
