-- What contracts see of sets.
use Rattle.std.specs.Prelude.{List}
use Rattle.std.specs.Arc.{arc_value}
use Rattle.rpki_blocks.specs.Sets.{Block}
use Rattle.rpki_blocks.specs.declared.chain.Kept.{Kept}
use Rattle.rpki_blocks.specs.declared.chain.Kept.TheVariants.{Shared, Own}

-- the blocks, whoever owns them
abbrev pub blocks_of : {B : Type 0} → Kept B → List Block
blocks_of (Shared blocks) = (arc_value blocks).items
blocks_of (Own blocks) = blocks.items
