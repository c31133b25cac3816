use Rattle.std.proofs.Common.{ℕ, ◌+◌, ◌-◌, ◌≤◌, length}
use Rattle.rpki_crl.specs.SerialTables.{digits}
use Rattle.rpki_crl.specs.SerialSearches.{Halving}
use Rattle.rpki_crl.proofs.Halvings.{IsBetween}
use Rattle.rpki_crl.proofs.table.SerialTable.contains.Given as goal

abbrev pub invariant-loop-low : goal.invariant-loop-low
invariant-loop-low l = record {
  between : IsBetween l.self l.serial l.low l.high;
  few : l.count + digits (l.high - l.low) ≤ digits (length l.self);
  rest : (looks : ℕ) → Halving l.self l.serial l.low l.high looks → Halving l.self l.serial l.initial.low l.initial.high (l.count + looks);
}

abbrev pub decreases-loop-low : goal.decreases-loop-low
decreases-loop-low l = l.high - l.low
