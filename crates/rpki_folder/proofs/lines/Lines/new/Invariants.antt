use Rattle.std.proofs.Common.{◌≡◌, [], length}
use Rattle.rpki_folder.specs.KeptLines.{AreLines}
use Rattle.rpki_folder.proofs.lines.Lines.new.Given as goal

abbrev pub invariant-loop : goal.invariant-loop
invariant-loop l = (length l.lines.items ≡ l.counter) × AreLines [] l.lines.items
