-- The lines that are printed of sets of numbers (own).
use Rattle.std.specs.Prelude.{◌≡◌, ◌↔◌, ℕ, ◌/◌, ◌^◌, List, [], ◌∷◌, ◌++◌, map, codes}
use Rattle.std.specs.List.{concat}
use Rattle.std.specs.Int.{w32, w128, to_be_bytes}
use Rattle.hex.specs.Hex.{encode_lower}
use Rattle.rpki_blocks.specs.Sets.{Block, IsChain, Has}
use Rattle.rpki_lines.specs.TextLines.{space}

-- an IPv4 address, which stands in the upper 32 of 128 bits: 8 hexadecimal digits in lower case
abbrev pub v4_end : ℕ → List ℕ
v4_end n = encode_lower (to_be_bytes w32 (n / 2 ^ 96))

-- an IPv6 address: 32 of them
abbrev pub v6_end : ℕ → List ℕ
v6_end n = encode_lower (to_be_bytes w128 n)

-- LOW-HIGH
abbrev pub range : (ℕ → List ℕ) → Block → List ℕ
range end_of b = concat (end_of b.min ∷ codes "-" ∷ end_of b.max ∷ [])

-- the ranges, or `none`
abbrev pub ranges : (ℕ → List ℕ) → List Block → List (List ℕ)
ranges end_of [] = codes "none" ∷ []
ranges end_of (b ∷ bs) = map (range end_of) (b ∷ bs)

-- a name, and words behind it, each behind a space
abbrev pub name_and_words : List ℕ → List (List ℕ) → List ℕ
name_and_words name words = name ++ concat (map (λ word. space ∷ word) words)

-- the line has the numbers that are held, in ranges that ascend, with a number that isn't held
-- between any two
pub record IsSetLine (name : List ℕ) (end_of : ℕ → List ℕ) (held : ℕ → Type 0) (line : List ℕ) : Type 0 where
  pub blocks : List Block
  pub sorted : IsChain blocks
  pub numbers : (n : ℕ) → Has blocks n ↔ held n
  pub is : line ≡ name_and_words name (ranges end_of blocks)
