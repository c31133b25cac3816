use Rattle.std.proofs.Common.{take}
use Rattle.rpki_cert.specs.Rearranging.{AreUnknown}
use Rattle.rpki_cert.proofs.extra.are_unknown.Given as goal

abbrev pub invariant-loop-extra : goal.invariant-loop-extra
invariant-loop-extra l = AreUnknown (take l.extra-index l.extras)
