use Rattle.std.specs.List.{AllByRecursion}
use Rattle.std.proofs.Common.{◌≡◌, ◌∷◌, map, take}
use Rattle.rpki_verdicts.specs.ShownPaths.{placed_of}
use Rattle.rpki_verdicts.specs.ShownPaths.Steps.{IsRanked}
use Rattle.rpki_verdicts.proofs.parts.Trees.all_ranked.Given as goal

-- the paths so far
abbrev pub invariant-loop-path : goal.invariant-loop-path
invariant-loop-path l = record {
  paths : map (λ it. it.path.now) l.all.items ≡ l.paths.first ∷ take l.path-index l.path-items;
  ranked : AllByRecursion (IsRanked (placed_of l.self) l.tree l.place) l.all.items;
}
