use Rattle.rpki_c.specs.FolderFates.{seen}
use Rattle.rpki_c.specs.FolderTelling.{AreLinesOf}
use Rattle.rpki_c.proofs.folder_lines.WalkLines.told.Given as goal

abbrev pub invariant-loop-place : goal.invariant-loop-place
invariant-loop-place l = AreLinesOf l.asks_key (seen l.self) l.place (record { lines = l.lines; ranges = l.ranges })
