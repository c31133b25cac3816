-- Which Overclaim an identifier names, by a function.
use Rattle.std.specs.Prelude.{ℕ, List, bytes_eq, if◌then◌else◌, Option, Some, None}
use Rattle.rpki_blocks.specs.declared.overclaim.Overclaim.{Overclaim}
use Rattle.rpki_blocks.specs.declared.overclaim.Overclaim.TheVariants.{Refuse, Trim}

-- Refuse for the first of two identifiers, Trim for the second, else nothing
abbrev pub which : List ℕ → List ℕ → List ℕ → Option Overclaim
which id refuse trim = if bytes_eq id refuse then Some Refuse else if bytes_eq id trim then Some Trim else None

-- the mode that an identifier names, if it names one
abbrev pub mode_of : (Overclaim → List ℕ) → List ℕ → Option Overclaim
mode_of identifier id = which id (identifier Refuse) (identifier Trim)
