use Rattle.std.proofs.Common.{◌≡◌, map, take}
use Rattle.rpki_crl.specs.RevokedEntries.Views.{entry_of}
use Rattle.rpki_c.specs.WantedLists.{HaveDates, given_entry}
use Rattle.rpki_c.proofs.wanted_list.entries_given.Given as goal

abbrev pub invariant-loop-it : goal.invariant-loop-it
invariant-loop-it l = record {
  entries_are : map entry_of l.all.items ≡ map given_entry (take l.it-index l.revoked);
  dates_exist : HaveDates (take l.it-index l.revoked);
}
