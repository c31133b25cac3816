use Rattle.std.proofs.Common.{◌≡◌, map, take}
use Rattle.rpki_c.specs.Writing.{ip_struct}
use Rattle.rpki_c.proofs.ranges.addresses_at.Given as goal

abbrev pub invariant-loop-at : goal.invariant-loop-at
invariant-loop-at l = take l.at l.part ≡ map ip_struct (take l.at l.blocks)
