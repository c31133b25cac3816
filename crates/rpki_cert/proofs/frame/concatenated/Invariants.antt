use Rattle.std.specs.List.{concat}
use Rattle.std.proofs.Common.{◌≡◌, take}
use Rattle.rpki_cert.proofs.frame.concatenated.Given as goal

abbrev pub invariant-loop-piece : goal.invariant-loop-piece
invariant-loop-piece l = l.octets.items ≡ concat (take l.piece-index l.pieces)
