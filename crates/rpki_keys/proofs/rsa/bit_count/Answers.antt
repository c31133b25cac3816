use Rattle.std.proofs.Common.{◌<◌, length, arith}
use Rattle.rpki_keys.proofs.OctetNumbers.{octets-of-fits}
use Rattle.rpki_keys.proofs.Sizes.{some-content, zero-digits, some-digits}
use Rattle.rpki_keys.proofs.rsa.bit_count.Goals as goal

pub returns-then-content-eq0 : goal.returns-then-content-eq0
returns-then-content-eq0 c =
    let content = c.args.content.now in
    let some : 0 < length content = some-content content c.requires.shortest in
    zero-digits content _ (omega arith) (octets-of-fits content c.type_inv.content) c.requires.shortest
    c.if-content-eq0.true c.requires.positive

pub returns-else-content-eq0 : goal.returns-else-content-eq0
returns-else-content-eq0 c =
    let content = c.args.content.now in
    let some : 0 < length content = some-content content c.requires.shortest in
    some-digits content _ _ (omega arith) (octets-of-fits content c.type_inv.content) c.ilog2.ensures.power_le c.ilog2.ensures.next_power_gt
