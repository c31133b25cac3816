use Rattle.std.specs.Fmt.{IsPlainFormatter}
use Rattle.std.specs.Slice.Iter.{iter_rest}
use Rattle.rpki_blocks.specs.BlockTexts.{ip_block_text, blocks_text}
use Rattle.rpki_blocks.specs.BlockTexts.Families.{address_text}
use Rattle.rpki_blocks.proofs.BlockTexts.{IsUnderWay}
use Rattle.rpki_blocks.proofs.text.write_ip_blocks.Given as goal

abbrev pub invariant-loop-block : goal.invariant-loop-block
invariant-loop-block g l =
    let text = ip_block_text (address_text l.fn.family) in
    IsPlainFormatter l.fn.f →
    IsUnderWay g.W.Write.write_str_gives l.fn.f text (iter_rest l.block-iterator) (blocks_text text l.fn.blocks)
    l.f
