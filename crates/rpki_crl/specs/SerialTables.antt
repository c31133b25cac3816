-- Serial numbers in ascending order, and how many of them a search looks at (own).
use Rattle.std.specs.Prelude.{ℕ, suc, ◌<◌, ◌≤◌, List, [], ◌∷◌, length, map, get_or, nat_eq, if◌then◌else◌, Option, Some, None}
use Rattle.std.specs.List.Sorted.{IsPermutation}
use Rattle.std.specs.Int.Digits.{digits_of}
use Rattle.rpki_crl.specs.RevokedEntries.{Entry}

-- no number is below an earlier one; equal ones may stand
abbrev pub AreAscending : List ℕ → Type 0
AreAscending xs = (i j : ℕ) → i ≤ j → j < length xs → get_or xs i 0 ≤ get_or xs j 0

-- how many binary digits a number has, 0 for 0
abbrev pub digits : ℕ → ℕ
digits n = length (digits_of 2 n)

-- the serials of entries, in their order
abbrev pub serials_of : List Entry → List ℕ
serials_of entries = map (λ e. e.serial) entries

-- how many entries are looked at, one after the other, until one has the serial: all where none has
abbrev pub looks : ℕ → List Entry → ℕ
looks serial [] = 0
looks serial (e ∷ entries) = if nat_eq e.serial serial then 1 else suc (looks serial entries)

-- a table has the serials of these entries, where there is one
abbrev pub IsCacheOf : List Entry → Option (List ℕ) → Type 0
IsCacheOf entries None = Unit {0}
IsCacheOf entries (Some table) = IsPermutation (serials_of entries) table
