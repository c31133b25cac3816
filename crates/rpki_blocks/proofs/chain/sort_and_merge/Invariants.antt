use Rattle.std.proofs.Common.{◌≡◌, ◌<◌, length, take, drop, vec_len, vec_capacity}
use Rattle.rpki_blocks.proofs.Merges.{IsMerged}
use Rattle.rpki_blocks.proofs.chain.sort_and_merge.Given as goal

abbrev pub invariant-merge : goal.invariant-merge
invariant-merge g l =
    record {
      len : length l.blocks.items ≡ l.i-end;
      room : vec_capacity l.blocks ≡ vec_capacity l.initial.blocks;
      long : vec_len l.blocks ≡ vec_len l.initial.blocks;
      behind : l.kept < l.i;
      merged : IsMerged
          g.B.Bound.greatest l.initial.blocks.items (take l.kept l.blocks.items) l.last (drop l.i l.blocks.items);
    }
