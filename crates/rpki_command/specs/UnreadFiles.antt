-- Files that can't be read or made: why, and what is said of it (own).
use Rattle.std.specs.Bool.{MatchBool}
use Rattle.std.specs.Fmt.{decimal}
use Rattle.std.specs.IoError.{error_kind}
use Rattle.std.specs.Prelude.{◌≡◌, ◌≢◌, ℕ, List, [], ◌++◌, bytes_eq, codes, if◌then◌else◌, Option, Some, None, IfSome, IsFalse, IsTrue}
use Rattle.std.specs.Str.{IsUtf8}
use Rattle.std.specs.declared.io.ErrorKind.{ErrorKind}
use Rattle.std.specs.declared.io.ErrorKind.TheVariants.{AlreadyExists, IsADirectory, NotFound, PermissionDenied}
use Rattle.rpki_answers.specs.UnreadNames.{is_closed_name}
use Rattle.rpki_document.specs.Texts.{characters_text}
use Rattle.rpki_command.specs.Outputs.{is_among}
use Rattle.rpki_command.specs.ReadFiles.{ReadsFile}
use Rattle.rpki_command.specs.declared.files.Unread.{Unread}
use Rattle.rpki_command.specs.declared.files.Unread.TheVariants as unread
use Rattle.rpki_command.specs.declared.making.Unmade.{Unmade}
use Rattle.rpki_command.specs.declared.making.Unmade.TheVariants as unmade

-- ---- why

-- why the file of this name can't be read, where no more than so many octets are taken: its name
-- isn't text, it has more octets, or the system doesn't give them; or memory ran out, of which no
-- more is known
abbrev pub IsWhyUnread : ReadsFile → ℕ → List ℕ → Unread → Type 0
IsWhyUnread reads most name unread.OtherName = IsUtf8 name → ⊥
IsWhyUnread reads most name (unread.TooLong limit) = (limit ≡ most) × reads name most None
IsWhyUnread reads most name (unread.AboveLimit limit) = (limit ≡ most) × reads name most None
IsWhyUnread reads most name (unread.Failed error) = reads name most None
IsWhyUnread reads most name unread.Memory = Unit {0}

-- why a source doesn't give its octets: it has more than so many, or it fails, or memory ran out
abbrev pub IsWhyNotGiven : ℕ → Unread → Type 0
IsWhyNotGiven most (unread.TooLong limit) = limit ≡ most
IsWhyNotGiven most (unread.Failed error) = Unit {0}
IsWhyNotGiven most unread.Memory = Unit {0}
IsWhyNotGiven most _ = ⊥

-- why the file of this name can't be made, where these were read: its name isn't text, or is one of
-- theirs; it is one of them under another name, as the system tells; or the system doesn't make it
abbrev pub IsWhyUnmade : List (List ℕ) → List ℕ → Unmade → Type 0
IsWhyUnmade read name unmade.OtherName = IsUtf8 name → ⊥
IsWhyUnmade read name unmade.WasRead = IsTrue (is_among name read)
IsWhyUnmade read name unmade.WasReadAs = IsFalse (is_among name read)
IsWhyUnmade read name (unmade.Failed error) = Unit {0}

-- ---- what is said of it

-- why the system didn't open, read or write a file, where that has words of its own here; else the
-- words are the system's
abbrev pub failure_text : ErrorKind → Option (List ℕ)
failure_text NotFound = Some (codes "no such file or directory")
failure_text IsADirectory = Some (codes "is a directory")
failure_text PermissionDenied = Some (codes "permission denied")
failure_text _ = None

abbrev pub unread_text : Unread → Option (List ℕ)
unread_text unread.OtherName = Some (codes "a file whose name isn't UTF-8 can't be opened")
unread_text (unread.TooLong most) =
    Some (codes "more than " ++ (decimal most ++ codes " bytes (--max-size sets the limit)"))
unread_text (unread.AboveLimit most) = Some (codes "more than " ++ (decimal most ++ codes " bytes"))
unread_text (unread.Failed error) = failure_text (error_kind error)
unread_text unread.Memory = Some (codes "out of memory")

-- and why it didn't make one, which may be there already
abbrev pub making_text : ErrorKind → Option (List ℕ)
making_text AlreadyExists = Some (codes "exists already (--force replaces it)")
making_text kind = failure_text kind

abbrev pub unmade_text : Unmade → Option (List ℕ)
unmade_text unmade.WasRead = Some (codes "is read too; expected another file for --out")
unmade_text unmade.WasReadAs = Some (codes "is read too, under another name; expected another file for --out")
unmade_text unmade.OtherName = Some (codes "a file whose name isn't UTF-8 can't be opened")
unmade_text (unmade.Failed error) = making_text (error_kind error)

-- what a file is called: `-` is standard input
abbrev pub input_name : List ℕ → List ℕ
input_name name = if bytes_eq name (codes "-") then codes "standard input" else characters_text name

-- a file by what it is called, and why nothing came of it
abbrev pub file_message : List ℕ → List ℕ → List ℕ
file_message file why = codes "rpki: " ++ (file ++ (codes ": " ++ (why ++ codes "\n")))

-- the line says so, in these words, if there are some, or else in the system's
abbrev pub IsLineAbout : List ℕ → Option (List ℕ) → List ℕ → Type 0
IsLineAbout file words line =
    (why : List ℕ) × IfSome words (λ said. why ≡ said) × (line ≡ file_message file why)

-- the line says why the file of this name can't be read, where no more than so many octets are
-- taken; and that is so
pub record IsToldUnread (reads : ReadsFile) (most : ℕ) (name line : List ℕ) : Type 0 where
  pub why : Unread
  pub because : IsWhyUnread reads most name why
  pub known : why ≢ unread.Memory
  pub line_is : IsLineAbout (input_name name) (unread_text why) line

-- of a file that can't be read the line says why; of a folder that couldn't be listed nothing more is said
abbrev pub SaysUnread : ReadsFile → ℕ → List ℕ → List ℕ → Type 0
SaysUnread reads most name said =
    MatchBool (is_closed_name name) (said ≡ []) (IsToldUnread reads most name said)

-- the line says why the folder of this name can't be listed, in these words
abbrev pub IsToldUnlisted : List ℕ → List ℕ → Type 0
IsToldUnlisted name line =
    (why : Unread) × (why ≢ unread.Memory) × IsLineAbout (input_name name) (unread_text why) line
