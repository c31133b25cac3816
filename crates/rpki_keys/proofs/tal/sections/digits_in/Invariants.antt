use Rattle.std.proofs.Common.{◌≡◌, ◌++◌, length}
use Rattle.std.specs.List.{flat_map}
use Rattle.std.specs.Str.Lines.{lines}
use Rattle.rpki_keys.specs.Digits.{without_white_space}
use Rattle.rpki_keys.proofs.tal.sections.digits_in.Given as goal

-- the digits so far, and those of the rest, are all
abbrev pub invariant-loop-rest : goal.invariant-loop-rest
invariant-loop-rest l = l.digits.items ++ flat_map without_white_space (lines l.rest) ≡ flat_map without_white_space (lines l.text)

abbrev pub decreases-loop-rest : goal.decreases-loop-rest
decreases-loop-rest l = length l.rest
