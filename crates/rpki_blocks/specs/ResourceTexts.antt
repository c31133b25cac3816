-- What is printed of AS numbers and of what becomes of an overclaim.
use Rattle.std.specs.Prelude.{ℕ, List, ◌++◌, codes, decimal}
use Rattle.rpki_blocks.specs.declared.overclaim.Overclaim.{Overclaim}
use Rattle.rpki_blocks.specs.declared.overclaim.Overclaim.TheVariants.{Refuse, Trim}

-- what becomes of a certificate that lists more than its issuer has
abbrev pub overclaim_text : Overclaim → List ℕ
overclaim_text Refuse = codes "refuse"
overclaim_text Trim = codes "trim"

-- an AS number: AS and its decimal digits (RFC 5396 2: asplain)
abbrev pub as_text : ℕ → List ℕ
as_text n = codes "AS" ++ decimal n
