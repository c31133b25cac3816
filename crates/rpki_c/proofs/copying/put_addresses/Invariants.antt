use Rattle.std.proofs.Common.{◌≡◌, ◌++◌, map, take, drop}
use Rattle.rpki_c.specs.Writing.{ip_struct}
use Rattle.rpki_c.proofs.copying.put_addresses.Given as goal

abbrev pub invariant-loop-at : goal.invariant-loop-at
invariant-loop-at l = l.out ≡ take l.at (map ip_struct l.blocks) ++ drop l.at l.fn.out
