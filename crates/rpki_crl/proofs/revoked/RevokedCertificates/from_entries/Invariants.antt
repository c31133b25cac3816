use Rattle.std.specs.List.{AllByRecursion}
use Rattle.std.proofs.Common.{◌≡◌, map, take}
use Rattle.rpki_crl.specs.RevokedEntries.{FitsEntry, entries}
use Rattle.rpki_crl.specs.RevokedEntries.Views.{entry_of}
use Rattle.rpki_crl.proofs.revoked.RevokedCertificates.from_entries.Given as goal

abbrev pub invariant-loop-entry : goal.invariant-loop-entry
invariant-loop-entry l = record {
  written : l.octets.items ≡ entries (map entry_of (take l.entry-index l.elements));
  fit : AllByRecursion FitsEntry (map entry_of (take l.entry-index l.elements));
}
