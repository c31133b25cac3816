use Rattle.std.proofs.Common.{◌≡◌, ◌≤◌, ◌^◌, ◌+◌, length, rules, arith}
use Rattle.rpki_parts.specs.Algorithms.{algorithm}
use Rattle.rpki_parts.specs.Keys.{whole_bits_format}
use Rattle.rpki_parts.proofs.Lengths.{bits_longer}
use Rattle.rpki_parts.proofs.signed.SignedData.append_signature.Goals as goal

pub returns-clause-too_long : goal.returns-clause-too_long
unfolding whole_bits_format
returns-clause-too_long c = λ h.
    let signature = c.args.self.now.signature in
    let value : c.value.result.now ≡ signature.value = search rules in
    let long : 2 ^ 32 ≤ length signature.value + 1 = rw (← value) (c.put_bits.ensures.too_long.0 h) in
    omega (arith, long, bits_longer (algorithm signature.algorithm) signature.value)
