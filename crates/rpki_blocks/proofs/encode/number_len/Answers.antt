use Rattle.std.proofs.Common.{length, ap, arith}
use Rattle.rpki_blocks.proofs.NumbersWritten.{number_1, number_2, number_3, number_4, number_5}
use Rattle.rpki_blocks.proofs.encode.number_len.Goals as goal

pub returns-in-0-to-127-clause-octets : goal.returns-in-0-to-127-clause-octets
returns-in-0-to-127-clause-octets c = ap length (number_1 c.args.asn (omega arith))

pub returns-in-128-to-32767-clause-octets : goal.returns-in-128-to-32767-clause-octets
returns-in-128-to-32767-clause-octets c = ap length (number_2 c.args.asn (omega arith) (omega arith))

pub returns-in-32768-to-8388607-clause-octets : goal.returns-in-32768-to-8388607-clause-octets
returns-in-32768-to-8388607-clause-octets c = ap length (number_3 c.args.asn (omega arith) (omega arith))

pub returns-in-8388608-to-2147483647-clause-octets : goal.returns-in-8388608-to-2147483647-clause-octets
returns-in-8388608-to-2147483647-clause-octets c = ap length (number_4 c.args.asn (omega arith) (omega arith))

pub returns-in_default-clause-octets : goal.returns-in_default-clause-octets
returns-in_default-clause-octets c = ap length (number_5 c.args.asn (omega arith) (omega arith))
