-- The files that stand for a name: where it is a folder's, those in it and below it; and what is
-- said of folders (own; how a name ends: RFC 6481 2.2).
use Rattle.std.specs.Cmp.Lexicographic.{slice_cmp}
use Rattle.std.specs.List.{count_by, ends_with, filter}
use Rattle.std.specs.List.Sorted.{IsPermutation, IsSorted}
use Rattle.std.specs.Ordering.{nat_cmp}
use Rattle.std.specs.Prelude.{◌≡◌, ◌||◌, ◌⊎◌, ◌+◌, ◌-◌, ◌^◌, ℕ, zero, suc, min, not, Bool, true, List, [], ◌∷◌, ◌++◌}
use Rattle.std.specs.Prelude.{codes, if◌then◌else◌, nat_eq, Option, Some, None}
use Rattle.std.specs.Bool.{MatchBool}
use Rattle.std.specs.Str.{IsUtf8}
use Rattle.rpki_answers.specs.UnreadNames.{closed_name}
use Rattle.rpki_text.specs.declared.command_line.arguments.Task.{Task}
use Rattle.rpki_text.specs.declared.command_line.arguments.Task.TheVariants.{Tree}
use Rattle.rpki_command.specs.Messages.{passed_message}
use Rattle.rpki_command.specs.UnreadFiles.{IsToldUnlisted}

-- ---- a folder

-- what listing the folder of a name gives: the names of the files, folders and links in it, as they
-- are opened, in any order, of which those of folders end in `/`; or nothing, since the name is no
-- folder's; or since the folder can't be listed. A pipe, a socket, a device or a link to one isn't
-- opened, and has no name there. What has a name that isn't UTF-8 isn't looked at, whatever it is:
-- the name stands there as that of a file where it ends in `.cer` or `.crl`, and else as that of a
-- folder
pub data Listing : Type 0 where
  holds : List (List ℕ) → Listing
  no_folder barred : Listing

abbrev pub ListsFolder : Type 1
ListsFolder = List ℕ → Listing → Type 0

-- the names, or that the name is no folder's
abbrev pub listing_of : Option (List (List ℕ)) → Listing
listing_of None = no_folder
listing_of (Some names) = holds names

-- of the system's folders a contract knows nothing
abbrev pub SystemLists : ListsFolder
SystemLists name given = Unit {0}

-- the name is no folder's
abbrev pub IsNoFolder : ListsFolder → List ℕ → Type 0
IsNoFolder lists name = (IsUtf8 name → ⊥) ⊎ lists name no_folder

-- ---- the names in it

-- a listing gives the name as a folder's
abbrev pub is_folder_name : List ℕ → Bool
is_folder_name name = ends_with nat_eq name (codes "/")

-- the name of a folder as its path begins, with a `/` at its end
abbrev pub slashed : List ℕ → List ℕ
slashed name = if is_folder_name name then name else name ++ codes "/"

-- what the names begin of files below the folder of a name that is given alone; of several names none
-- is that of all
abbrev pub roots_of : List (List ℕ) → List (List ℕ)
roots_of (name ∷ []) = slashed name ∷ []
roots_of _ = []

-- by this name a folder has itself, or the one above it
abbrev pub IsDots : List ℕ → Type 0
IsDots its = (its ≡ codes ".") ⊎ (its ≡ codes "..")

-- the path is that of what stands in the folder of this path under this name, and isn't the folder
-- itself, nor the one above it
abbrev pub IsEntryPath : List ℕ → List ℕ → List ℕ → Type 0
IsEntryPath folder its path =
    (IsDots its → ⊥) × ((path ≡ folder ++ its) ⊎ (path ≡ (folder ++ its) ++ codes "/"))

abbrev pub IsPathIn : List ℕ → List ℕ → Type 0
IsPathIn folder path = (its : List ℕ) × IsEntryPath folder its path

-- it ends as that of a certificate or a revocation list does
abbrev pub is_file_name : List ℕ → Bool
is_file_name name = ends_with nat_eq name (codes ".cer") || ends_with nat_eq name (codes ".crl")

-- the path by which is opened what can't be looked at, since its path isn't text
abbrev pub unseen_path : List ℕ → List ℕ
unseen_path path = if is_file_name path then path else path ++ codes "/"

-- it is that of a folder, a certificate or a revocation list
abbrev pub is_taken : List ℕ → Bool
is_taken name = is_folder_name name || is_file_name name

-- it is that of another file, which is passed over
abbrev pub is_passed : List ℕ → Bool
is_passed name = not (is_taken name)

-- how many are told, where there are so many: these, or the greatest number of 64 bits
abbrev pub told_count : ℕ → ℕ
told_count count = min count (2 ^ 64 - 1)

-- these names stand for the name: those in its folder that are taken, sorted by their octets, while
-- so many others are passed over; or it alone, where it is no folder's; or the name that stays of a
-- folder that can't be listed, which is said
abbrev pub StandFor : ListsFolder → List ℕ → List (List ℕ) → ℕ → List ℕ → Type 0
StandFor lists name its passed said =
    (IsNoFolder lists name × (its ≡ name ∷ []) × (passed ≡ 0) × (said ≡ []))
    ⊎ (lists name barred × IsToldUnlisted name said × (its ≡ closed_name name ∷ []) × (passed ≡ 0))
    ⊎ ((given : List (List ℕ)) × (sorted : List (List ℕ)) × lists name (holds given)
    × IsPermutation given sorted × IsSorted (slice_cmp nat_cmp) sorted × (its ≡ filter is_taken sorted)
    × (passed ≡ count_by is_passed sorted) × (said ≡ []))

-- the name stands for itself, none is passed over, and nothing is said
abbrev pub StandsForItself : List ℕ → List (List ℕ) → ℕ → List ℕ → Type 0
StandsForItself name its passed said = (its ≡ name ∷ []) × (passed ≡ 0) × (said ≡ [])

-- ---- below it

-- for each of the names that the test gives stand its own, one after the other, and the others
-- stay; so many are passed over in all, and this is said of them
abbrev pub AreOpened : ListsFolder → (List ℕ → Bool) → List (List ℕ) → List (List ℕ) → ℕ → List ℕ → Type 0
AreOpened lists opens [] all passed said = (all ≡ []) × (passed ≡ 0) × (said ≡ [])
AreOpened lists opens (name ∷ names) all passed said =
    (its : List (List ℕ)) × (more : List (List ℕ)) × (of_it : ℕ) × (of_more : ℕ) × (line : List ℕ)
    × (lines : List ℕ)
    × MatchBool (opens name) (StandFor lists name its of_it line)
    (StandsForItself name its of_it line)
    × AreOpened lists opens names more of_more lines
    × (all ≡ its ++ more) × (passed ≡ of_it + of_more) × (said ≡ line ++ lines)

-- the names given so many levels further down, where each level opens the folders of the one above
unfoldable pub AreDown : ListsFolder → ℕ → List (List ℕ) → List (List ℕ) → ℕ → List ℕ → Type 0
AreDown lists zero names all passed said = (all ≡ names) × (passed ≡ 0) × (said ≡ [])
AreDown lists (suc levels) names all passed said =
    (above : List (List ℕ)) × (before : ℕ) × (last : ℕ) × (so_far : List ℕ) × (lines : List ℕ)
    × AreDown lists levels names above before so_far
    × AreOpened lists is_folder_name above all last lines
    × (passed ≡ before + last) × (said ≡ so_far ++ lines)

-- ---- those of a request

-- the files that stand for the names of a task: each name of a tree may be a folder's, which is
-- opened 32 levels down, and a folder below these stays a name, which can't be read; of another
-- task each name is a file's. Behind what is said of folders stands how many files in them were
-- passed over
abbrev pub AreFilesOf : ListsFolder → Task → List (List ℕ) → List (List ℕ) → List ℕ → Type 0
AreFilesOf lists Tree names files said =
    (first : List (List ℕ)) × (in_first : ℕ) × (in_further : ℕ) × (of_first : List ℕ)
    × (of_further : List ℕ)
    × AreOpened lists (λ _. true) names first in_first of_first
    × AreDown lists 32 first files in_further of_further
    × (said ≡ of_first ++ of_further ++ passed_message (told_count (in_first + in_further)))
AreFilesOf lists _ names files said = (files ≡ names) × (said ≡ [])
