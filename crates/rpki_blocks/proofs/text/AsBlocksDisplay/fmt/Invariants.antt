use Rattle.std.specs.Fmt.{IsPlainFormatter}
use Rattle.std.specs.Slice.Iter.{iter_rest}
use Rattle.rpki_blocks.specs.BlockTexts.{as_block_text, blocks_text}
use Rattle.rpki_blocks.proofs.BlockTexts.{IsUnderWay}
use Rattle.rpki_blocks.proofs.text.AsBlocksDisplay.fmt.Given as goal

abbrev pub invariant-loop-block : goal.invariant-loop-block
invariant-loop-block g l =
    IsPlainFormatter l.fn.f → IsUnderWay g.W.Write.write_str_gives l.fn.f as_block_text (iter_rest l.block-iterator)
    (blocks_text as_block_text l.fn.self) l.f
