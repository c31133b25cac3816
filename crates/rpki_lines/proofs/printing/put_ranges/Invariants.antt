use Rattle.std.proofs.Common.{◌≡◌, ◌∷◌, ◌++◌, map}
use Rattle.std.specs.Prelude.{string_bytes}
use Rattle.std.specs.List.{concat}
use Rattle.std.specs.Slice.Iter.{iter_rest}
use Rattle.rpki_lines.specs.TextLines.{space}
use Rattle.rpki_lines.specs.PrintedSets.{range}
use Rattle.rpki_lines.proofs.printing.put_ranges.Given as goal

abbrev pub invariant-loop-block : goal.invariant-loop-block
invariant-loop-block g l = string_bytes l.out ++
    concat (map (λ block. space ∷ range g.E.Ends.text block) (iter_rest l.block-iterator)) ≡
    string_bytes l.fn.out ++ concat (map (λ block. space ∷ range g.E.Ends.text block) l.fn.chain)
