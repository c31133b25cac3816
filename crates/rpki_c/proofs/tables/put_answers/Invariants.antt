use Rattle.std.proofs.Common.{◌≡◌, ◌<◌, ◌≤◌, ℕ, List, length, get_or}
use Rattle.rpki_crl.specs.RevokedEntries.{Entry, IsRevoked}
use Rattle.rpki_c.specs.Contents.{IsFlag, serial_in}
use Rattle.rpki_c.specs.ListTables.{IsSerialTable}
use Rattle.rpki_c.proofs.tables.put_answers.Given as goal

abbrev pub invariant-loop-at : goal.invariant-loop-at
invariant-loop-at l = record {
  long : length l.answers ≡ length l.fn.answers;
  told : (entries : List Entry) → IsSerialTable entries l.table → (i : ℕ) → i < l.at →
      IsFlag (IsRevoked (serial_in l.serials i) entries) (get_or l.answers i 0);
  flags : (i : ℕ) → i < l.at → get_or l.answers i 0 ≤ 1;
}
