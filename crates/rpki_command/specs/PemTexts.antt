-- A certificate or a revocation list in PEM (RFC 7468 2, 3, 5, 6).
use Rattle.std.specs.List.{flat_map}
use Rattle.std.specs.Prelude.{◌≡◌, ◌<◌, ℕ, All, List, [], ◌∷◌, ◌++◌, length, codes}
use Rattle.rpki_keys.specs.Digits.{base64_of}

-- the line and its end
abbrev pub ended : List ℕ → List ℕ
ended line = line ++ codes "\n"

-- the line and its end, if anything stands in it
abbrev pub ended_rest : List ℕ → List ℕ
ended_rest [] = []
ended_rest (digit ∷ digits) = ended (digit ∷ digits)

-- the text has the digits in lines of 64, and those that are left, if any are, in a last one
pub record AreInLines (digits text : List ℕ) : Type 0 where
  pub lines : List (List ℕ)
  pub rest : List ℕ
  pub whole : All (λ line. length line ≡ 64) lines
  pub short : length rest < 64
  pub digits_are : digits ≡ flat_map (λ line. line) lines ++ rest
  pub text_is : text ≡ flat_map ended lines ++ ended_rest rest

-- the line that begins or ends what has this label
abbrev pub mark : List ℕ → List ℕ → List ℕ
mark word label = ended (word ++ label ++ codes "-----")

-- the text has these octets in PEM, under this label
pub record IsPemText (label octets text : List ℕ) : Type 0 where
  pub lines : List ℕ
  pub lines_are : AreInLines (base64_of octets) lines
  pub text_is : text ≡ mark (codes "-----BEGIN ") label ++ lines ++ mark (codes "-----END ") label
