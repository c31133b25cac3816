use Rattle.std.proofs.Common.{◌≡◌, map, take}
use Rattle.rpki_c.specs.Writing.{as_struct}
use Rattle.rpki_c.proofs.ranges.as_numbers_at.Given as goal

abbrev pub invariant-loop-at : goal.invariant-loop-at
invariant-loop-at l = take l.at l.part ≡ map as_struct (take l.at l.blocks)
