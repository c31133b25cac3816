use Rattle.std.proofs.Common.{◌≡◌, List, ℕ, ◌++◌, length, map}
use Rattle.std.specs.List.{AllZip}
use Rattle.rpki_lines.specs.TextLines.{AreTextLines}
use Rattle.rpki_lines.specs.InputLines.{IsInputLine, authority}
use Rattle.rpki_lines.proofs.path_lines.members_from.Given as goal

abbrev pub invariant-loop-line : goal.invariant-loop-line
invariant-loop-line l = record {
  kept : l.anchor ≡ l.fn.anchor;
  lines : List (List ℕ);
  encoded : AllZip IsInputLine (map authority l.cas.items) lines;
  so_far : (more : List (List ℕ)) → AreTextLines more l.rest → AreTextLines (lines ++ more) l.fn.text;
}

abbrev pub decreases-loop-line : goal.decreases-loop-line
decreases-loop-line l = length l.rest
