use Rattle.std.proofs.Common.{◌≡◌, ◌++◌}
use Rattle.rpki_crl.specs.SerialTables.{serials_of}
use Rattle.rpki_c.proofs.tables.ascending.Given as goal

abbrev pub invariant-loop-entry : goal.invariant-loop-entry
invariant-loop-entry l = l.serials.items ++ serials_of l.entry-iterator ≡ serials_of l.list.list.fields.revoked.entries
