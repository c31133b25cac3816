use Rattle.std.proofs.Common.{◌-◌, ◌≤◌, length}
use Rattle.std.specs.Io.KnownBytes.{Consumes}
use Rattle.rpki_lines.specs.Watching.{device, HasFailed}
use Rattle.rpki_lines.proofs.running.read_whole.Given as goal

abbrev pub invariant-loop-chunk : goal.invariant-loop-chunk
invariant-loop-chunk g l = record {
  so_far : Consumes (g.R.Read.remaining (device l.fn.reader)) (g.R.Read.remaining (device l.reader)) l.input.items;
  unfailed : HasFailed l.reader → ⊥;
  few : length l.input.items ≤ 0x1000001;
}

abbrev pub decreases-loop-chunk : goal.decreases-loop-chunk
decreases-loop-chunk g l = 0x1000001 - length l.input.items
