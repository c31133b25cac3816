-- What is printed of an address of a family, for the code's type of families.
use Rattle.std.specs.Prelude.{ℕ, List}
use Rattle.rpki_blocks.specs.BlockTexts.{v4_text, v6_text}
use Rattle.rpki_blocks.specs.declared.ip_resources.Family.{Family}
use Rattle.rpki_blocks.specs.declared.ip_resources.Family.TheVariants.{V4, V6}

abbrev pub address_text : Family → ℕ → List ℕ
address_text V4 n = v4_text n
address_text V6 n = v6_text n
