use Rattle.std.proofs.Common.{◌≡◌, map, take}
use Rattle.rpki_verdicts.proofs.shown_paths.paths_of.Given as goal

-- the paths so far
abbrev pub invariant-loop-it : goal.invariant-loop-it
invariant-loop-it l = map (λ path. path.now) l.paths.items ≡ map (λ it. it.path.now) (take l.it-index l.ranked)
