use Rattle.std.proofs.Common.{◌≤◌, ◌^◌, ◌+◌, length, arith}
use Rattle.rpki_parts.specs.Keys.{key_algorithm_format, public_key_format, whole_bits_format}
use Rattle.rpki_parts.proofs.Lengths.{bits_longer}
use Rattle.rpki_parts.proofs.key.PublicKey.append_content.Goals as goal

pub returns-clause-too_long : goal.returns-clause-too_long
unfolding public_key_format whole_bits_format
returns-clause-too_long c = λ h.
    let key = c.args.self.now in
    let long : 2 ^ 32 ≤ length key.bits + 1 = rw (← c.bits.ensures.same) (c.put_bits.ensures.too_long.0 h) in
    omega (arith, long, bits_longer (key_algorithm_format.written key.format) key.bits)
