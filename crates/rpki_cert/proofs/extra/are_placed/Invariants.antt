use Rattle.std.proofs.Common.{take}
use Rattle.rpki_cert.specs.Rearranging.{ArePlaced}
use Rattle.rpki_cert.proofs.extra.are_placed.Given as goal

abbrev pub invariant-loop-extra : goal.invariant-loop-extra
invariant-loop-extra l = ArePlaced l.count (take l.extra-index l.extras)
