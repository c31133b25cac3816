-- Words of hexadecimal digits (own).
use Rattle.std.specs.Prelude.{◌≡◌, ℕ, ◌+◌, ◌*◌, ◌<◌, ◌≤◌, ◌⊎◌, List, [], ◌∷◌, codes}

-- a digit of either case: 0 to 9 are 48 to 57, A to F are 65 to 70, a to f are 97 to 102
abbrev pub IsHexDigit : ℕ → ℕ → Type 0
IsHexDigit value digit =
    ((value < 10) × (digit ≡ 48 + value))
    ⊎ (((10 ≤ value) × (value < 16) × (digit + 10 ≡ 65 + value))
    ⊎ ((10 ≤ value) × (value < 16) × (digit + 10 ≡ 97 + value)))

-- an octet in two digits, the high one first
pub record IsHexPair (octet first second : ℕ) : Type 0 where
  pub high : ℕ
  pub low : ℕ
  pub high_is : IsHexDigit high first
  pub low_is : IsHexDigit low second
  pub octet_is : octet ≡ high * 16 + low

-- octets, each in two digits
abbrev pub AreHexDigits : List ℕ → List ℕ → Type 0
AreHexDigits [] [] = Unit {0}
AreHexDigits [] (x ∷ text) = ⊥
AreHexDigits (octet ∷ octets) [] = ⊥
AreHexDigits (octet ∷ octets) (x ∷ []) = ⊥
AreHexDigits (octet ∷ octets) (x ∷ y ∷ text) = IsHexPair octet x y × AreHexDigits octets text

-- a word: at least one octet in digits, or - for none
abbrev pub IsHexWord : List ℕ → List ℕ → Type 0
IsHexWord [] word = word ≡ codes "-"
IsHexWord (octet ∷ octets) word = AreHexDigits (octet ∷ octets) word
