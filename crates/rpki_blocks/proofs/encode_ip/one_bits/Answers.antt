use Rattle.std.proofs.Common.{◌∙◌, arith}
use Rattle.rpki_blocks.proofs.AddressBits.{trailing_ones_are, one_bits_le}
use Rattle.rpki_blocks.proofs.encode_ip.one_bits.Goals as goal

pub returns : goal.returns
returns c =
    let is = c.trailing_ones.ensures ∙ trailing_ones_are c.args.address c.ranges.address.fits in
    record { is = is; most = omega (arith, is, one_bits_le c.args.address) }
