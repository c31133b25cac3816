use Rattle.std.proofs.Common.{◌+◌, ◌*◌, ◌/◌, ◌-◌, ◌^◌, ◌∷◌, length, arith, ap}
use Rattle.rpki_blocks.specs.AddressBits.{front, without}
use Rattle.rpki_der.specs.Tags.{BIT_STRING}
use Rattle.rpki_blocks.proofs.AddressOctets.{length_octets_of}
use Rattle.rpki_blocks.proofs.Lengths.{short_value}
use Rattle.rpki_blocks.proofs.encode_ip.address_len.Goals as goal

pub returns-clause-octets : goal.returns-clause-octets
unfolding without
returns-clause-octets c = λ address.
    let long = length_octets_of ((128 - c.args.last + 7) / 8)
    (address / 2 ^ c.args.last * 2 ^ (8 * ((128 - c.args.last + 7) / 8) - (128 - c.args.last))) in
    omega (
      arith,
      ap length
          (short_value BIT_STRING ((front c.args.last address).0 ∷ (front c.args.last address).1)
          (omega (arith, long))),
      long,
      c.octets_kept.ensures.octets,
    )
