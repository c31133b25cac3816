use Rattle.std.proofs.Common.{◌≡◌, ◌++◌, take}
use Rattle.rpki_keys.specs.Digits.{without_white_space}
use Rattle.rpki_keys.proofs.tal.digits.push_digits.Given as goal

-- the octets so far have gone in, but for white space
abbrev pub invariant-loop-octet : goal.invariant-loop-octet
invariant-loop-octet l = l.digits.items ≡ l.initial.digits.items ++ without_white_space (take l.octet-index l.line)
