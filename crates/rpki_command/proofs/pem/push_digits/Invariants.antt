use Rattle.std.specs.List.{flat_map}
use Rattle.std.specs.Prelude.{All}
use Rattle.std.proofs.Common.{◌≡◌, ◌++◌, List, ℕ, length}
use Rattle.rpki_command.specs.PemTexts.{ended}
use Rattle.rpki_command.proofs.pem.push_digits.Given as goal

-- the digits before the rest stand in whole lines
abbrev pub invariant-loop-rest : goal.invariant-loop-rest
invariant-loop-rest l =
    (lines : List (List ℕ)) × All (λ line. length line ≡ 64) lines
    × (l.digits ≡ flat_map (λ line. line) lines ++ l.rest)
    × (l.text.items ≡ l.initial.text.items ++ flat_map ended lines)

abbrev pub decreases-loop-rest : goal.decreases-loop-rest
decreases-loop-rest l = length l.rest
