use Rattle.std.proofs.Common.{◌≡◌, take}
use Rattle.rpki_c.specs.ListTables.{serials_in}
use Rattle.rpki_c.proofs.tables.with_hints.Given as goal

abbrev pub invariant-loop-at : goal.invariant-loop-at
invariant-loop-at l = serials_in l.table.items ≡ take l.at l.serials
