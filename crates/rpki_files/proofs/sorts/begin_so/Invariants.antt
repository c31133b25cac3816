use Rattle.std.proofs.Common.{◌≡◌, drop}
use Rattle.rpki_der.specs.Place.{remaining}
use Rattle.rpki_files.specs.FileSorts.Reading.{all_turned}
use Rattle.rpki_files.proofs.sorts.begin_so.Given as goal

-- the turns so far were taken
abbrev pub invariant-loop-turn : goal.invariant-loop-turn
invariant-loop-turn l = all_turned (drop l.turn-index l.turns) (remaining l.at) ≡ all_turned l.turns l.octets
