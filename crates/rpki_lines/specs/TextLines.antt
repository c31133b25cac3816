-- The lines of a text: each ends with LF, which the last may lack (own).
use Rattle.std.specs.Prelude.{◌≡◌, ◌≢◌, ℕ, ◌⊎◌, List, [], ◌∷◌, ◌++◌}
use Rattle.std.specs.List.{AllByRecursion}

-- LF
abbrev pub line_end : ℕ
line_end = 10

-- what separates words
abbrev pub space : ℕ
space = 32

-- none of the octets is this one
abbrev pub IsWithout : ℕ → List ℕ → Type 0
IsWithout octet octets = AllByRecursion (λ other. other ≢ octet) octets

-- these are the lines of the text: the first, with the LF that ends it, and then those of the rest
abbrev pub AreTextLines : List (List ℕ) → List ℕ → Type 0
AreTextLines [] text = text ≡ []
AreTextLines (line ∷ lines) text =
    IsWithout line_end line
    × (((lines ≡ []) × (line ≢ []) × (text ≡ line))
    ⊎ ((rest : List ℕ) × (text ≡ line ++ line_end ∷ rest) × AreTextLines lines rest))
