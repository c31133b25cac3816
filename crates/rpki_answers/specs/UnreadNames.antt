-- The names of files and folders that are to be validated and can't be read (own).
use Rattle.std.specs.List.{ends_with}
use Rattle.std.specs.Prelude.{◌-◌, ℕ, Bool, false, if◌then◌else◌, List, [], ◌∷◌, ◌++◌, drop, length, nat_eq, take}
use Rattle.std.specs.Str.{bytes_eq}
use Rattle.rpki_files.specs.Files.{FileFields}

-- the name under which a folder stays that can't be listed, which was said when it was opened: a NUL
-- follows, which no name of a file or folder has
abbrev pub closed_name : List ℕ → List ℕ
closed_name name = name ++ 0 ∷ []

abbrev pub is_closed_name : List ℕ → Bool
is_closed_name name = ends_with nat_eq name (0 ∷ [])

-- its own name
abbrev pub open_name : List ℕ → List ℕ
open_name name = if is_closed_name name then take (length name - 1) name else name

-- the first of the files has the name
abbrev pub is_next : List ℕ → List FileFields → Bool
is_next name [] = false
is_next name (file ∷ files) = bytes_eq file.name name

-- of these names those that no file has; the files stand in the order of the names
abbrev pub unread_names : List (List ℕ) → List FileFields → List (List ℕ)
unread_names [] files = []
unread_names (name ∷ names) files =
    if is_next name files then unread_names names (drop 1 files)
    else open_name name ∷ unread_names names files
