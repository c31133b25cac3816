-- What is read of a file (own).
use Rattle.std.specs.Prelude.{◌≡◌, ◌≤◌, ℕ, List, length, Option, Some, IfSome}
use Rattle.rpki_files.specs.Files.{FileFields}
use Rattle.rpki_files.specs.PemFiles.{IsObjectOf}

-- what reading the file of a name gives, where no more than so many octets are taken: its octets;
-- or nothing, since it can't be read so
abbrev pub ReadsFile : Type 1
ReadsFile = List ℕ → ℕ → Option (List ℕ) → Type 0

-- of the system's files a contract knows only this: what is given of one has no more octets than
-- are taken
abbrev pub SystemReads : ReadsFile
SystemReads name most given = IfSome given (λ octets. length octets ≤ most)

-- this file has the name, and holds the octets that reading gives
abbrev pub IsFileRead : ReadsFile → ℕ → List ℕ → FileFields → Type 0
IsFileRead reads most name file = (file.name ≡ name) × reads name most (Some file.octets)

-- this file has the name, and holds the object of the octets that reading gives
abbrev pub IsObjectRead : ReadsFile → ℕ → List ℕ → FileFields → Type 0
IsObjectRead reads most name file =
    (file.name ≡ name) × ((octets : List ℕ) × reads name most (Some octets) × IsObjectOf octets file.octets)
