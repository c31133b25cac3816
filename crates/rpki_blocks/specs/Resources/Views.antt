-- What contracts see of resources.
use Rattle.rpki_blocks.specs.Resources.{Resources, missing, inherit, blocks}
use Rattle.rpki_blocks.specs.declared.resources.Choice.{Choice}
use Rattle.rpki_blocks.specs.declared.resources.Choice.TheVariants.{Missing, Inherit, Blocks}

-- the code's choice as contracts see it
abbrev pub resources_of : {B : Type 0} → Choice B → Resources
resources_of Missing = missing
resources_of Inherit = inherit
resources_of (Blocks chain) = blocks chain
