use Rattle.std.proofs.Common.{◌≡◌, ◌++◌, map, take}
use Rattle.rpki_verdicts.specs.Searches.{files_at}
use Rattle.rpki_verdicts.proofs.search.push_at.Given as goal

abbrev pub invariant-loop-place : goal.invariant-loop-place
invariant-loop-place l =
    map (λ f. f.now) l.path.items ≡ map (λ f. f.now) l.initial.path.items ++ files_at (map (λ f. f.now) l.certs)
    (take l.place-index l.places)
