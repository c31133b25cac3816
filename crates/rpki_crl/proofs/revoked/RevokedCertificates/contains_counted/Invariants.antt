use Rattle.std.proofs.Common.{◌≡◌, ◌+◌, ◌≤◌, Some, length}
use Rattle.rpki_der.specs.Place.{remaining}
use Rattle.rpki_crl.specs.RevokedEntries.{entries_in, entries_pass}
use Rattle.rpki_crl.specs.SerialTables.{looks}
use Rattle.rpki_crl.proofs.EntrySequences.{spares}
use Rattle.rpki_crl.proofs.revoked.RevokedCertificates.contains_counted.Given as goal

abbrev pub invariant-loop-rest : goal.invariant-loop-rest
invariant-loop-rest l = record {
  elements : entries_pass (remaining l.rest) ≡ Some tt;
  same : spares l.serial (remaining l.rest) ≡ spares l.serial l.self.octets;
  looked : l.count + looks l.serial (entries_in (remaining l.rest)) ≡ looks l.serial l.self.entries;
  few : l.count + length (remaining l.rest) ≤ length l.self.octets;
}

abbrev pub decreases-loop-rest : goal.decreases-loop-rest
decreases-loop-rest l = length (remaining l.rest)
