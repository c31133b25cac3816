use Rattle.std.proofs.Common.{refl}
use Rattle.std.proofs.Output.{has_written_append}
use Rattle.rpki_blocks.specs.BlockTexts.{ip_block_text}
use Rattle.rpki_blocks.specs.BlockTexts.Families.{address_text}
use Rattle.rpki_blocks.proofs.BlockTexts.{more_written}
use Rattle.rpki_blocks.proofs.text.write_ip_blocks.Goals as goal

pub loop-block-preserved : goal.loop-block-preserved
loop-block-preserved g c = λ plain.
    let so_far = c.loop-block.invariant plain in
    let comma = c.in_ok-write_str.ensures.writes so_far.wrote.plain refl in
    more_written _ (ip_block_text (address_text c.args.family)) _ _ _ _ _ _ _ c.in-Some-block.ensures.steps so_far
    (has_written_append _ _ _ _ _ _ comma (c.in_ok-write_ip_block-2.ensures comma.plain refl))
