-- The texts of moments that a person may write.
use Rattle.std.specs.Prelude.{◌≡◌, ℕ, ◌⊎◌, List, [], ◌∷◌, ◌++◌, map, length, get_or, replicate}
use Rattle.rpki_der.specs.Texts.{date_text, time_text}
use Rattle.rpki_der.specs.Times.{Moment, fourteen_digits}

-- a moment at midnight, as YYYY-MM-DD
pub record IsDateText (m : Moment) (text : List ℕ) : Type 0 where
  pub date : text ≡ date_text m
  pub hour : m.hour ≡ 0
  pub minute : m.minute ≡ 0
  pub second : m.second ≡ 0

-- a moment, as YYYY-MM-DD, YYYY-MM-DDThh:mm:ssZ or YYYYMMDDhhmmss
abbrev pub IsMomentText : Moment → List ℕ → Type 0
IsMomentText m text = IsDateText m text ⊎ ((text ≡ time_text m) ⊎ (text ≡ fourteen_digits m))

-- ---- their digits, and the marks between these

-- the octets at these places
abbrev pub digits_at : List ℕ → List ℕ → List ℕ
digits_at places text = map (λ place. get_or text place 0) places

-- the digits of YYYY-MM-DD
abbrev pub day_digits : List ℕ → List ℕ
day_digits text = digits_at (0 ∷ 1 ∷ 2 ∷ 3 ∷ 5 ∷ 6 ∷ 8 ∷ 9 ∷ []) text

-- the digits of YYYY-MM-DD, and those of midnight
abbrev pub date_digits : List ℕ → List ℕ
date_digits text = day_digits text ++ replicate 6 48

-- the digits of YYYY-MM-DDThh:mm:ssZ
abbrev pub all_digits : List ℕ → List ℕ
all_digits text = day_digits text ++ digits_at (11 ∷ 12 ∷ 14 ∷ 15 ∷ 17 ∷ 18 ∷ []) text

-- what stands between the digits of YYYY-MM-DDThh:mm:ssZ: - - T : : Z
pub record HasMarks (text : List ℕ) : Type 0 where
  pub size : length text ≡ 20
  pub year : get_or text 4 0 ≡ 45
  pub month : get_or text 7 0 ≡ 45
  pub day : get_or text 10 0 ≡ 84
  pub hour : get_or text 13 0 ≡ 58
  pub minute : get_or text 16 0 ≡ 58
  pub second : get_or text 19 0 ≡ 90
