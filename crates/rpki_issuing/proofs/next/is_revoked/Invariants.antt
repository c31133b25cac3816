use Rattle.std.proofs.Common.{map, take}
use Rattle.rpki_crl.specs.RevokedEntries.{IsRevoked}
use Rattle.rpki_crl.specs.RevokedEntries.Views.{entry_of}
use Rattle.rpki_issuing.proofs.next.is_revoked.Given as goal

abbrev pub invariant-loop-entry : goal.invariant-loop-entry
invariant-loop-entry l = IsRevoked l.serial (map entry_of (take l.entry-index l.entries)) → ⊥
