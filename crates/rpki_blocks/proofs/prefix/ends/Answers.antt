use Rattle.std.proofs.Common.{◌-◌, arith}
use Rattle.std.proofs.lemmas.Nat.{one_shl}
use Rattle.rpki_blocks.proofs.Prefixes.{prefix_fits}
use Rattle.rpki_blocks.proofs.prefix.ends.Goals as goal

pub overflow_add-result : goal.overflow_add-result
overflow_add-result c = rw (one_shl (128 - c.args.len) 128 (omega arith))
    (record { fits = prefix_fits c.args.addr c.args.len c.requires c.ranges.addr.fits })
