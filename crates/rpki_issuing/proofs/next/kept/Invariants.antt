use Rattle.std.specs.List.{filter}
use Rattle.std.proofs.Common.{◌≡◌, ◌++◌, map}
use Rattle.rpki_crl.specs.RevokedEntries.Views.{entry_of}
use Rattle.rpki_issuing.specs.NextLists.Steps.{keeps}
use Rattle.rpki_issuing.proofs.next.kept.Given as goal

abbrev pub invariant-loop-entry : goal.invariant-loop-entry
invariant-loop-entry l = map entry_of l.entries.items ++ filter (keeps l.gone) l.entry-iterator ≡
    filter (keeps l.gone) l.previous.list.fields.revoked.entries
