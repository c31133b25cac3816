-- The reading function of the set of a sequence of blocks.
use Rattle.std.specs.Prelude.{ℕ, ◌+◌, min, max, nat_lt, if◌then◌else◌, List, [], ◌∷◌, Option, Some}
use Rattle.rpki_der.specs.Values.Reading.{◌>>=◌}
use Rattle.rpki_der.specs.Sequences.Reading.{sequence_of}
use Rattle.rpki_blocks.specs.Resources.{Resources, listed}
use Rattle.rpki_blocks.specs.Sets.{Block}

-- ---- the chain of a union

-- a chain and one block more
abbrev pub added : Block → List Block → List Block
added b [] = b ∷ []
added b (c ∷ cs) =
    if nat_lt (b.max + 1) c.min then b ∷ c ∷ cs
    else if nat_lt (c.max + 1) b.min then c ∷ added b cs
    else added (record { min = min b.min c.min; max = max b.max c.max }) cs

-- a block whose upper end is below the lower one has no number
unfoldable pub merged : List Block → List Block
merged [] = []
merged (b ∷ bs) = if nat_lt b.max b.min then merged bs else added b (merged bs)

-- a sequence of elements, merged
abbrev pub union_of : (List ℕ → Option (Block × List ℕ)) → List ℕ → Option Resources
union_of element c = sequence_of element c >>= λ bs. Some (listed (merged bs))
