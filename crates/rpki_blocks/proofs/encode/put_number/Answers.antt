use Rattle.std.proofs.Common.{arith}
use Rattle.rpki_der.proofs.Appending.{appends}
use Rattle.rpki_blocks.proofs.NumbersWritten.{number_1, number_2, number_3, number_4, number_5}
use Rattle.rpki_blocks.proofs.encode.put_number.Goals as goal

pub returns-then-asn-lt128-clause-ok : goal.returns-then-asn-lt128-clause-ok
returns-then-asn-lt128-clause-ok c = appends c.extend_from_slice.result c.args.out.now.items
    _ _ _ (number_1 c.args.asn (omega arith)) (rw c.to_be_bytes.ensures at c.extend_from_slice.ensures.items)

pub returns-then-asn-lt32768-clause-ok : goal.returns-then-asn-lt32768-clause-ok
returns-then-asn-lt32768-clause-ok c = appends c.extend_from_slice-then-asn-lt32768.result c.args.out.now.items
    _ _ _ (number_2 c.args.asn (omega arith) (omega arith))
    (rw c.to_be_bytes.ensures at c.extend_from_slice-then-asn-lt32768.ensures.items)

pub returns-then-asn-lt8388608-clause-ok : goal.returns-then-asn-lt8388608-clause-ok
returns-then-asn-lt8388608-clause-ok c = appends c.extend_from_slice-then-asn-lt8388608.result c.args.out.now.items
    _ _ _ (number_3 c.args.asn (omega arith) (omega arith))
    (rw c.to_be_bytes.ensures at c.extend_from_slice-then-asn-lt8388608.ensures.items)

pub returns-then-asn-lt2147483648-clause-ok : goal.returns-then-asn-lt2147483648-clause-ok
returns-then-asn-lt2147483648-clause-ok c = appends c.extend_from_slice-then-asn-lt2147483648.result
    c.args.out.now.items _ _ _ (number_4 c.args.asn (omega arith) (omega arith))
    (rw c.to_be_bytes.ensures at c.extend_from_slice-then-asn-lt2147483648.ensures.items)

pub returns-else-asn-lt2147483648-clause-ok : goal.returns-else-asn-lt2147483648-clause-ok
returns-else-asn-lt2147483648-clause-ok c = appends c.extend_from_slice-else-asn-lt2147483648.result
    c.args.out.now.items _ _ _ (number_5 c.args.asn (omega arith) (omega arith))
    (rw c.to_be_bytes.ensures at c.extend_from_slice-else-asn-lt2147483648.ensures.items)
