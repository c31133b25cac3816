use Rattle.std.proofs.Common.{◌≡◌, ◌+◌, ◌<◌, ◌≤◌, ℕ, drop, get_or, length}
use Rattle.rpki_crl.specs.RevokedEntries.{Entry}
use Rattle.rpki_c.specs.Contents.{TellsEntry}
use Rattle.rpki_c.specs.declared.lists.RpkiEntry.{RpkiEntry}
use Rattle.rpki_c.proofs.lists.put_entries.Given as goal

abbrev pub invariant-loop-it : goal.invariant-loop-it
invariant-loop-it l = record {
  rest : drop l.at l.list.list.fields.revoked.entries ≡ l.it-iterator;
  count : l.at + length l.it-iterator ≡ length l.list.list.fields.revoked.entries;
  fits : l.at ≤ length l.out;
  told : (i : ℕ) (e : Entry) (it : RpkiEntry) → i < l.at →
      TellsEntry (get_or l.list.list.fields.revoked.entries i e) (get_or l.out i it);
  kept : drop l.at l.out ≡ drop l.at l.fn.out;
  room : length l.out ≡ length l.fn.out;
}
