use Rattle.std.proofs.Common.{◌≡◌, ◌++◌, take}
use Rattle.rpki_parts.specs.KeyNames.{hexadecimal}
use Rattle.rpki_parts.proofs.name.put_digits.Given as goal

abbrev pub invariant-loop-octet : goal.invariant-loop-octet
invariant-loop-octet l = l.out.items ≡ l.initial.out.items ++ hexadecimal (take l.octet-index l.octets)
