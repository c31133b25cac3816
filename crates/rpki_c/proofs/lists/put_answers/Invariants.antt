use Rattle.std.proofs.Common.{◌≡◌, ◌<◌, ℕ, length, get_or}
use Rattle.rpki_crl.specs.RevokedEntries.{IsRevoked}
use Rattle.rpki_c.specs.Contents.{IsFlag, serial_in}
use Rattle.rpki_c.proofs.lists.put_answers.Given as goal

abbrev pub invariant-loop-at : goal.invariant-loop-at
invariant-loop-at l = record {
  long : length l.answers ≡ length l.fn.answers;
  told : (i : ℕ) → i < l.at →
      IsFlag (IsRevoked (serial_in l.serials i) l.list.list.fields.revoked.entries) (get_or l.answers i 0);
}
