use Rattle.std.proofs.Common.{◌≡◌, ◌++◌, map, take, drop}
use Rattle.rpki_c.specs.Writing.{as_struct}
use Rattle.rpki_c.proofs.copying.put_as_numbers.Given as goal

abbrev pub invariant-loop-at : goal.invariant-loop-at
invariant-loop-at l = l.out ≡ take l.at (map as_struct l.blocks) ++ drop l.at l.fn.out
