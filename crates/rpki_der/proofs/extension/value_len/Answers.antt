use Rattle.std.proofs.Common.{ap, arith, length}
use Rattle.rpki_der.proofs.Lengths.{length_short, length_81, length_82, length_83, length_84}
use Rattle.rpki_der.proofs.extension.value_len.Goals as goal
use Rattle.rpki_der.proofs.extension.value_len.Goals.{in-0-to-127, in-128-to-255, in-256-to-65535, in-65536-to-16777215, in_default}

pub returns-clause-octets : goal.returns-clause-octets
returns-clause-octets c =
    let n = c.args.len in
    elim c.if-len-lt128.branch [
      | in-0-to-127 w ↦ omega (arith, ap length (length_short n (omega arith)))
      | in-128-to-255 w ↦ omega (arith, ap length (length_81 n (omega arith) (omega arith)))
      | in-256-to-65535 w ↦ omega (arith, ap length (length_82 n (omega arith) (omega arith)))
      | in-65536-to-16777215 w ↦ omega (arith, ap length (length_83 n (omega arith) (omega arith)))
      | in_default w ↦ omega (arith, ap length (length_84 n (omega arith) (omega arith)))
    ]
