use Rattle.std.proofs.Common.{◌≡◌, take}
use Rattle.rpki_path.proofs.members.Member.of_each.Given as goal

-- the members so far
abbrev pub invariant-loop-octets : goal.invariant-loop-octets
invariant-loop-octets l = l.members.items ≡ take l.octets-index l.strings
