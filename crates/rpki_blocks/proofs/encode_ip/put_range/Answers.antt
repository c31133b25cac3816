use Rattle.std.proofs.Common.{arith}
use Rattle.rpki_blocks.proofs.Lengths.{put_two}
use Rattle.rpki_blocks.proofs.encode_ip.put_range.Goals as goal

pub returns-clause-ok : goal.returns-clause-ok
returns-clause-ok c =
    rw (← c.zero_bits-low.ensures.is, ← c.one_bits-high.ensures.is)
    (put_two c.put_address-2.result _ _ _ _ _ _ _ _ c.in_ok-extend_from_slice.ensures.items
    c.in_ok-put_address.ensures.ok
    (omega (arith, c.address_len.ensures.octets c.args.min, c.address_len-2.ensures.octets c.args.max))
    (omega arith) c.put_address-2.ensures.ok)
