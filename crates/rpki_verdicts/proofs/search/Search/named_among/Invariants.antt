use Rattle.std.specs.Prelude.{All, Any, MatchOption, false}
use Rattle.std.proofs.Common.{map, take}
use Rattle.rpki_verdicts.specs.Searches.{DoesNotReach, IsNamedIn, IsUnanchored}
use Rattle.rpki_verdicts.specs.ShownPaths.{placed_of}
use Rattle.rpki_verdicts.proofs.search.Search.named_among.Given as goal

-- none so far reaches up, and the last one is kept
abbrev pub invariant-loop-part : goal.invariant-loop-part
invariant-loop-part l = record {
  stops : All (λ part. DoesNotReach (placed_of l.self.trees.now) l.file part.answer)
      (take l.part-index l.parts);
  named : MatchOption l.kept (All (λ part. IsUnanchored part.answer) (take l.part-index l.parts))
      (λ path. Any (λ part. IsNamedIn (placed_of l.self.trees.now) part.answer l.file false (map (λ f. f.now) path.items)) l.parts);
}
