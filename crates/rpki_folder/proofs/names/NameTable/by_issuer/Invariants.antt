use Rattle.std.proofs.Common.{take}
use Rattle.rpki_folder.specs.NameTables.{AreByIssuer}
use Rattle.rpki_folder.proofs.names.NameTable.by_issuer.Given as goal

abbrev pub invariant-loop-place : goal.invariant-loop-place
invariant-loop-place l = AreByIssuer l.folder.certs (take l.place-index l.places) l.table
