use Rattle.std.proofs.Common.{◌≡◌, ◌++◌, map, take}
use Rattle.rpki_c.specs.Writing.{ip_struct}
use Rattle.rpki_c.proofs.ranges.push_addresses.Given as goal

abbrev pub invariant-loop-block : goal.invariant-loop-block
invariant-loop-block l = l.all.items ≡ l.initial.all.items ++ map ip_struct (take l.block-index l.blocks)
