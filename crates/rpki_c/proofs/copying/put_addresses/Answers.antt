use Rattle.std.proofs.Common.{arith}
use Rattle.rpki_c.specs.Writing.{ip_struct}
use Rattle.rpki_c.proofs.Writings.{written_next}
use Rattle.rpki_c.proofs.copying.put_addresses.Goals as goal

pub loop-at-preserved : goal.loop-at-preserved
loop-at-preserved c = written_next ip_struct c.as_slice-blocks.result.now c.args.out.now c.loop-at.out c.loop-at.at
    c.index-blocks-at.result c.ip_range.result
    (omega arith) (omega arith) c.index-blocks-at.is c.ip_range.ensures c.loop-at.invariant
