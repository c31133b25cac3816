-- What a search says of the files among which it seeks: of those that it passes over, and where
-- there is no list (own).
use Rattle.std.specs.Fmt.{decimal}
use Rattle.std.specs.Prelude.{◌≡◌, ◌==◌, ◌⊎◌, ℕ, if◌then◌else◌, List, [], ◌∷◌, ◌++◌, codes}
use Rattle.rpki_files.specs.Contents.{BeginsWithCertificate, IsList, StandBehind}
use Rattle.rpki_files.specs.Files.{FileFields}
use Rattle.rpki_answers.specs.VerdictTexts.{SaysOfEach}
use Rattle.rpki_command.specs.UnreadFiles.{input_name, file_message}

-- why a file is neither, where it begins with a CRL and so many octets stand behind that
abbrev pub neither_text : ℕ → List ℕ
neither_text left =
    if left == 0 then codes "neither a certificate nor a CRL"
    else codes "neither a certificate nor a CRL, " ++
    (decimal left ++ ((if left == 1 then codes " byte follows" else codes " bytes follow") ++ codes " its CRL"))

-- that a file is neither a certificate nor a list, in a line, and why, where it begins with a list:
-- so many octets stand behind that
abbrev pub SaysNeither : FileFields → List ℕ → Type 0
SaysNeither file said =
    (left : ℕ) × StandBehind file.octets left
    × (said ≡ file_message (input_name file.name) (neither_text left))

-- of one that is neither that is said, and of another nothing
abbrev pub SaysIfPassed : FileFields → List ℕ → Type 0
SaysIfPassed file said =
    ((BeginsWithCertificate file.octets ⊎ IsList file.octets) × (said ≡ []))
    ⊎ ((BeginsWithCertificate file.octets → ⊥) × (IsList file.octets → ⊥) × SaysNeither file said)

-- so of each behind the first, which is the one that is sought
abbrev pub SaysOfOthers : List FileFields → List ℕ → Type 0
SaysOfOthers [] said = said ≡ []
SaysOfOthers (file ∷ others) said = SaysOfEach SaysIfPassed others said

-- where there is no list, that no path is sought, in a line; and else nothing
abbrev pub no_list_message : List (List ℕ) → List ℕ
no_list_message [] =
    codes "rpki: none of the files is a CRL: no path is searched, and the file is validated alone\n"
no_list_message (name ∷ names) = []

-- what is said of the files, of which those are lists that have these names
abbrev pub SaysOfFiles : List FileFields → List (List ℕ) → List ℕ → Type 0
SaysOfFiles files lists said =
    (of_others : List ℕ) × SaysOfOthers files of_others × (said ≡ of_others ++ no_list_message lists)
