use Rattle.std.proofs.Common.{◌≡◌, List, ℕ, ◌++◌, length}
use Rattle.std.specs.Io.KnownBytes.{Appends}
use Rattle.rpki_lines.specs.Watching.{device}
use Rattle.rpki_command.proofs.speaking.Speaker.put.Given as goal

abbrev pub invariant-loop-rest : goal.invariant-loop-rest
invariant-loop-rest g l = record {
  front : List ℕ;
  so_far : Appends (g.W.Write.contents (device l.fn.self.watched)) (g.W.Write.contents (device l.self.watched)) front;
  parts : l.fn.octets ≡ front ++ l.rest;
}

abbrev pub decreases-loop-rest : goal.decreases-loop-rest
decreases-loop-rest g l = length l.rest
