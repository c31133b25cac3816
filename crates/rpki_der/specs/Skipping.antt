-- Values that are skipped: well formed, and not too deep (X.690 8.1; the bound of depth is own).
use Rattle.std.specs.List.{AllByRecursion, concat}
use Rattle.std.specs.Prelude.{ℕ, ◌≡◌, ◌/◌, ◌%◌, zero, suc, ◌⊎◌, List}
use Rattle.rpki_der.specs.Values.{IsValue}
pub mod Reading

-- how many constructed values may stand one inside the other, the skipped one counted as the first
-- (own)
abbrev pub levels : ℕ
levels = 32

-- the identifier octet is one of a primitive value: bit 6 is 0 (X.690 8.1.2.5)
abbrev pub IsPrimitive : ℕ → Type 0
IsPrimitive tag = (tag / 32) % 2 ≡ 0

-- primitive, or its content is a sequence of values with one level less
unfoldable pub IsSkippableWithin : ℕ → List ℕ → Type 0
IsSkippableWithin zero b = (v : IsValue b) × IsPrimitive v.tag
IsSkippableWithin (suc depth) b =
    (v : IsValue b)
    × (IsPrimitive v.tag ⊎ ((elements : List (List ℕ)) × (v.content ≡ concat elements) × AllByRecursion (IsSkippableWithin depth) elements))

-- a value that can be skipped: ANY, well formed, at most `levels` deep
abbrev pub IsSkippable : List ℕ → Type 0
IsSkippable b = IsSkippableWithin levels b

-- such values one after the other, and nothing else
abbrev pub IsSkippableSequence : List ℕ → Type 0
IsSkippableSequence b = (elements : List (List ℕ)) × (b ≡ concat elements) × AllByRecursion IsSkippable elements

-- a value that can be skipped, as a format of which nothing is kept
abbrev pub IsSkipped : Unit {0} → List ℕ → Type 0
IsSkipped u b = IsSkippable b

-- a value that is kept whole, its inside untested
abbrev pub IsCaptured : List ℕ → List ℕ → Type 0
IsCaptured octets b = IsValue b × (octets ≡ b)
