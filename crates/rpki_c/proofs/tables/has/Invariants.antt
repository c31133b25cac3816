use Rattle.std.proofs.Common.{◌-◌, ◌≤◌, length}
use Rattle.rpki_crl.specs.SerialTables.{AreAscending}
use Rattle.rpki_c.specs.ListTables.{serials_in}
use Rattle.rpki_crl.proofs.Halvings.{IsBetween}
use Rattle.rpki_c.proofs.tables.has.Given as goal

abbrev pub invariant-loop-low : goal.invariant-loop-low
invariant-loop-low l = record {
  inside : l.high ≤ length l.table;
  between : AreAscending (serials_in l.table) → IsBetween (serials_in l.table) l.serial l.low l.high;
}

abbrev pub decreases-loop-low : goal.decreases-loop-low
decreases-loop-low l = l.high - l.low
