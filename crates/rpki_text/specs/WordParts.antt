-- Words behind a command that are parts in any order: files, and options, some with a value; and
-- what the functions that read them say of a word or two (own).
use Rattle.std.specs.List.{before_first, after_first}
use Rattle.std.specs.Prelude.{◌≡◌, ◌<◌, ◌⊎◌, ℕ, List, [], ◌∷◌, ◌++◌, length, slice_index, Bool, codes, fold}
use Rattle.std.specs.Str.{bytes_eq}

-- the word begins with a hyphen, and isn't the hyphen alone, which is standard input
abbrev pub IsOption : List ℕ → Type 0
IsOption word = (slice_index word 0 ≡ 0x2D) × (1 < length word)

-- the words give the option of this name the value: as the next word, or behind `=`
abbrev pub GivesValue : List ℕ → List ℕ → List (List ℕ) → Type 0
GivesValue name value words =
    (words ≡ name ∷ value ∷ []) ⊎ (words ≡ (name ++ codes "=" ++ value) ∷ [])

-- the words are these parts, one after the other
abbrev pub AreInOrder : {P : Type 0} → (P → List (List ℕ) → Type 0) → List P → List (List ℕ)
    → Type 0
AreInOrder IsPart [] words = words ≡ []
AreInOrder IsPart (part ∷ parts) words =
    (front : List (List ℕ)) × (rest : List (List ℕ)) × IsPart part front
    × AreInOrder IsPart parts rest × (words ≡ front ++ rest)

-- the words are a part, and the new one has what it says too
abbrev pub AddsPart : {P R : Type 0} → (P → List (List ℕ) → Type 0) → (R → P → R)
    → List (List ℕ) → R → R → Type 0
AddsPart {P} IsPart with_part words old new =
    (part : P) × IsPart part words × (new ≡ with_part old part)

-- the words are parts, and the new one has what they say too
abbrev pub AddsParts : {P R : Type 0} → (P → List (List ℕ) → Type 0) → (R → P → R)
    → List (List ℕ) → R → R → Type 0
AddsParts {P} IsPart with_part words old new =
    (parts : List P) × AreInOrder IsPart parts words × (new ≡ fold with_part old parts)

-- no part begins with these words, whatever stands behind them
abbrev pub BeginsNoPart : {P : Type 0} → (P → List (List ℕ) → Type 0) → List (List ℕ) → Type 0
BeginsNoPart {P} IsPart words =
    (part : P) (its behind rest : List (List ℕ)) → IsPart part its
    → words ++ behind ≡ its ++ rest → ⊥

-- the words are parts up to some that are wrong, as is told
pub record IsFirstWrong {P M : Type 0} (IsPart : P → List (List ℕ) → Type 0)
    (IsWrong : M → List (List ℕ) → Type 0) (misuse : M) (words : List (List ℕ)) : Type 0 where
  pub parts : List P
  pub before : List (List ℕ)
  pub behind : List (List ℕ)
  pub parts_are : AreInOrder IsPart parts before
  pub wrong : IsWrong misuse behind
  pub words_are : words ≡ before ++ behind

-- the word is the option's name, `=` and a value
abbrev pub Joins : List ℕ → List ℕ → List ℕ → Type 0
Joins name value word = word ≡ name ++ codes "=" ++ value

-- the word `--`
abbrev pub is_dashes : List ℕ → Bool
is_dashes word = bytes_eq word (codes "--")

-- the words before the first `--`
abbrev pub words_before : List (List ℕ) → List (List ℕ)
words_before words = before_first is_dashes words

-- those behind it, which are files however they begin
abbrev pub words_behind : List (List ℕ) → List (List ℕ)
words_behind words = after_first is_dashes words
