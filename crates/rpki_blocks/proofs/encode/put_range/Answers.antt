use Rattle.std.proofs.Common.{arith}
use Rattle.rpki_blocks.specs.Systems.{as_range_format}
use Rattle.rpki_blocks.proofs.Lengths.{put_two}
use Rattle.rpki_blocks.proofs.encode.put_range.Goals as goal

pub returns-clause-ok : goal.returns-clause-ok
unfolding as_range_format
returns-clause-ok c = put_two c.put_number-2.result _ _ _ _ _ _ _ _ c.in_ok-extend_from_slice.ensures.items
    c.in_ok-put_number.ensures.ok (omega (arith, c.number_len.ensures.octets, c.number_len-2.ensures.octets))
    (omega arith) c.put_number-2.ensures.ok
