use Rattle.std.proofs.Common.{map, take}
use Rattle.rpki_crl.specs.RevokedEntries.Views.{entry_of}
use Rattle.rpki_issuing.specs.NextLists.{HasNextEntries}
use Rattle.rpki_issuing.proofs.next.next_entries.Given as goal

abbrev pub invariant-loop-entry : goal.invariant-loop-entry
invariant-loop-entry l = HasNextEntries l.previous.list.fields (map entry_of (take l.entry-index l.revoked)) l.gone
    (map entry_of l.entries.items)
