use Rattle.std.proofs.Common.{◌+◌, ◌-◌, ◌≤◌, length}
use Rattle.rpki_crl.specs.SerialBuckets.{last_bucket}
use Rattle.rpki_crl.proofs.Buckets.{AreBegun}
use Rattle.rpki_crl.proofs.table.starts_of.Given as goal

abbrev pub invariant-loop-i : goal.invariant-loop-i
invariant-loop-i l = record {
  begun : AreBegun l.base l.shift l.serials l.starts.items l.i;
  few : length l.starts.items ≤ last_bucket l.base l.shift l.serials + 1;
}

abbrev pub invariant-loop-bucket : goal.invariant-loop-bucket
invariant-loop-bucket l = record {
  begun : AreBegun l.base l.shift l.serials l.starts.items l.i;
  few : length l.starts.items ≤ last_bucket l.base l.shift l.serials + 1;
}

abbrev pub decreases-loop-bucket : goal.decreases-loop-bucket
decreases-loop-bucket l = l.bucket + 1 - length l.starts.items
