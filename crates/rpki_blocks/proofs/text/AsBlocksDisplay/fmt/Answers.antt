use Rattle.std.proofs.Common.{rules}
use Rattle.rpki_blocks.specs.BlockTexts.{as_block_text}
use Rattle.rpki_blocks.proofs.BlockTexts.{more_written}
use Rattle.rpki_blocks.proofs.text.AsBlocksDisplay.fmt.Goals as goal

pub loop-block-preserved : goal.loop-block-preserved
loop-block-preserved g c = λ plain.
    let so_far = c.loop-block.invariant plain in
    let ready = so_far.wrote.plain in
    more_written _ as_block_text _ _ _ _ _ _ _ c.in-Some-block.ensures.steps so_far (search rules)
