-- Addresses and blocks of a family as text.
use Rattle.std.specs.Prelude.{ℕ, List}
use Rattle.rpki_blocks.specs.BlockTexts.{v4_text, v6_text, v4_block_text, v6_block_text}
use Rattle.rpki_blocks.specs.Sets.{Block}
use Rattle.rpki_text.specs.declared.blocks.Family.{Family}
use Rattle.rpki_text.specs.declared.blocks.Family.TheVariants.{V4, V6}

-- an address of a family
abbrev pub family_address_text : Family → ℕ → List ℕ
family_address_text V4 = v4_text
family_address_text V6 = v6_text

-- a block of a family of addresses
abbrev pub family_text : Family → Block → List ℕ
family_text V4 = v4_block_text
family_text V6 = v6_block_text
