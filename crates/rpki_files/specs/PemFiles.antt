-- The object of a file: in PEM (RFC 7468), or the file's octets as they are.
use Rattle.std.specs.List.{after_first, before_first, flat_map, list_any, slice_split, starts_with}
use Rattle.std.specs.Prelude.{◌≡◌, ◌⊎◌, ◌||◌, ℕ, nat_eq, Bool, not, IsTrue, List, [], ◌∷◌, ◌++◌, codes}
use Rattle.base64.specs.GeneralPurpose.{IsBytes}
use Rattle.rpki_keys.specs.Digits.{base64_of, without_white_space}

-- a text, in whatever encoding it writes what isn't ASCII: none of its octets is 0, as one of each
-- certificate and of each list in DER is (own), so that what stands in one is never taken for PEM
abbrev pub is_text : List ℕ → Bool
is_text file = not (list_any (λ octet. nat_eq octet 0) file)

-- its lines, which end with LF. A CR before that is white space
abbrev pub text_lines : List ℕ → List (List ℕ)
text_lines = slice_split (λ octet. nat_eq octet 10)

-- U+FEFF in UTF-8 (RFC 3629 6), which some editors write at the head of a text
abbrev pub byte_order_mark : List ℕ
byte_order_mark = 0xEF ∷ 0xBB ∷ 0xBF ∷ []

-- what a line begins with at which an object begins
abbrev pub begin_line : List ℕ
begin_line = codes "-----BEGIN "

-- a line at which an object begins, be there a byte order mark before it (own), and one at which it
-- ends
abbrev pub is_begin_line : List ℕ → Bool
is_begin_line line =
    starts_with nat_eq line begin_line || starts_with nat_eq line (byte_order_mark ++ begin_line)

abbrev pub is_end_line : List ℕ → Bool
is_end_line line = starts_with nat_eq line (codes "-----END ")

-- the lines of a text behind the first at which an object begins
abbrev pub lines_behind_begin : List ℕ → List (List ℕ)
lines_behind_begin text = after_first is_begin_line (text_lines text)

-- what stands in a text from where its first object begins to where it ends, without white space
pub record HasBase64 (digits text : List ℕ) : Type 0 where
  pub has_end : IsTrue (list_any is_end_line (lines_behind_begin text))
  pub digits_are : digits ≡ flat_map without_white_space (before_first is_end_line (lines_behind_begin text))

-- a second object begins in a text (RFC 7468 2)
abbrev pub BeginsAgain : List ℕ → Type 0
BeginsAgain text = IsTrue (list_any is_begin_line (lines_behind_begin text))

-- a file in PEM: a text in which one object begins and no second one (own), which has these octets
pub record IsPemOf (octets file : List ℕ) : Type 0 where
  pub is_of_text : IsTrue (is_text file)
  pub has_base64 : HasBase64 (base64_of octets) file
  pub are_octets : IsBytes octets
  pub is_only : ¬ BeginsAgain file

-- the octets of a file's object: of the one in PEM, or all of the file's where it isn't in PEM
abbrev pub IsObjectOf : List ℕ → List ℕ → Type 0
IsObjectOf file octets = IsPemOf octets file ⊎ ((octets ≡ file) × ((inside : List ℕ) → ¬ IsPemOf inside file))

-- ---- files that are nearly in PEM

-- an object begins at one of a text's lines
abbrev pub HasBeginLine : List ℕ → Type 0
HasBeginLine text = IsTrue (list_any is_begin_line (text_lines text))

-- a text in which an object begins that has no end
abbrev pub IsUnendedPem : List ℕ → Type 0
IsUnendedPem file = IsTrue (is_text file) × HasBeginLine file × ((digits : List ℕ) → ¬ HasBase64 digits file)

-- a text in which several objects begin
abbrev pub IsSeveralPem : List ℕ → Type 0
IsSeveralPem file = IsTrue (is_text file) × BeginsAgain file

-- a text in which an object begins, and which isn't in PEM
abbrev pub IsDamagedPem : List ℕ → Type 0
IsDamagedPem file = IsTrue (is_text file) × HasBeginLine file × ((octets : List ℕ) → ¬ IsPemOf octets file)

-- a text without the lines of PEM: base64, white space aside, that begins as that of a SEQUENCE of
-- 128 octets or more does, whose identifier is 30 and whose length begins with 8 (own)
abbrev pub IsBareBase64 : List ℕ → Type 0
IsBareBase64 file =
    IsTrue (starts_with nat_eq file (codes "MI"))
    × ((octets : List ℕ) × IsBytes octets × (without_white_space file ≡ base64_of octets))
