use Rattle.rpki_blocks.proofs.AddressBits.{trailing_zeros_are, zero_bits_le}
use Rattle.std.proofs.Common.{arith}
use Rattle.rpki_blocks.proofs.encode_ip.zero_bits.Goals as goal

pub returns : goal.returns
returns c =
    let is = trailing_zeros_are c.args.address c.ranges.address.fits in
    record { is = is; most = omega (arith, is, zero_bits_le c.args.address) }
