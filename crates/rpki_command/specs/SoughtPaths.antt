-- A path that is sought: what is read of the files among which it is, and which files it has (own).
use Rattle.std.specs.Prelude.{◌≡◌, ◌⊎◌, ◌↔◌, ℕ, List, [], ◌∷◌, ◌++◌, Option, Some, None, IsTrue}
use Rattle.rpki_keys.specs.RsaSignatures.{IsSignedByRsa}
use Rattle.rpki_der.specs.Times.{Moment}
use Rattle.rpki_cert.specs.Verification.{context}
use Rattle.rpki_text.specs.CommandLines.{RequestFields}
use Rattle.rpki_text.specs.CommandLines.Views.{word_octets}
use Rattle.rpki_files.specs.Contents.{IsList}
use Rattle.rpki_files.specs.Files.{FileFields, file_names}
use Rattle.rpki_verdicts.specs.GivenLocators.{LocatorFields, locator_files}
use Rattle.rpki_verdicts.specs.Searches.{IsSoughtPath}
use Rattle.rpki_verdicts.specs.Trees.{TreeFields}
use Rattle.rpki_answers.specs.AnswerTexts.{tree_question_of}
use Rattle.rpki_answers.specs.Outcomes.{AreAllRead}
use Rattle.rpki_command.specs.Messages.{bound_message}
use Rattle.rpki_command.specs.NamedFiles.{AreRead}
use Rattle.rpki_command.specs.PassedFiles.{SaysOfFiles}
use Rattle.rpki_command.specs.ReadFiles.{ReadsFile}
use Rattle.rpki_command.specs.declared.searching.SoughtNames.{SoughtNames}

-- these are the names of those of the files that are lists, in their order
abbrev pub AreListNames : List FileFields → List (List ℕ) → Type 0
AreListNames [] names = names ≡ []
AreListNames (file ∷ files) names =
    ((IsList file.octets → ⊥) × AreListNames files names)
    ⊎ ((rest : List (List ℕ)) × IsList file.octets
    × AreListNames files rest × (names ≡ file.name ∷ rest))

-- these are the names of the files of the path that is sought to the first of the files, and those
-- of all lists among these; and so the walk ended, where it came to no valid path
pub record AreSoughtNames (q : TreeFields) (sought : SoughtNames) : Type 0 where
  pub path : List FileFields
  pub path_is : (file : FileFields) (more : List FileFields) → q.files ≡ file ∷ more
      → IsSoughtPath (context IsSignedByRsa q.at q.strict) q file path sought.ended
  pub files_are : word_octets sought.files.items ≡ file_names path
  pub lists_are : AreListNames q.files (word_octets sought.lists.items)

-- the request of the files and the lists that were found
abbrev pub with_sought : RequestFields → SoughtNames → RequestFields
with_sought r sought =
    record r { files = word_octets sought.files.items; lists = word_octets sought.lists.items }

-- the first of the files that could be read has the first of these names
abbrev pub IsFirstRead : List (List ℕ) → List FileFields → Type 0
IsFirstRead [] files = ⊥
IsFirstRead (name ∷ names) [] = ⊥
IsFirstRead (name ∷ names) (file ∷ files) = file.name ≡ name

-- what is asked for could be read: the first file that the request names, and its locators
abbrev pub IsAskedRead : RequestFields → List FileFields → List LocatorFields → Type 0
IsAskedRead r files locators =
    IsFirstRead r.files files × (file_names (locator_files locators) ≡ r.locators)

-- What a search gives at a moment, of what is read of the files of a request: the names, and
-- whether all files could be read; or none, exactly where what is asked for couldn't be.
abbrev pub IsSearchOf : RequestFields → Moment → List FileFields → List FileFields
    → List LocatorFields → Option SoughtNames → Type 0
IsSearchOf r now files lists locators None = IsAskedRead r files locators → ⊥
IsSearchOf r now files lists locators (Some sought) =
    IsAskedRead r files locators
    × AreSoughtNames (tree_question_of r now files locators) sought
    × (IsTrue sought.are_all_read ↔ AreAllRead r files lists (locator_files locators))

-- what is said in it: of the files, and then which bound it met, if it met one
abbrev pub SaysOfSought : TreeFields → SoughtNames → List ℕ → Type 0
SaysOfSought q sought said =
    (of_files : List ℕ) × SaysOfFiles q.files (word_octets sought.lists.items) of_files
    × (said ≡ of_files ++ bound_message q sought.ended)

-- and nothing, where nothing was sought
abbrev pub SaysOfSearch : TreeFields → Option SoughtNames → List ℕ → Type 0
SaysOfSearch q None said = said ≡ []
SaysOfSearch q (Some sought) said = SaysOfSought q sought said

-- what a search gives, by what reading files gives, and what is said in it: why files can't be
-- read, and then of those that could be
pub record IsPathSearch (reads : ReadsFile) (r : RequestFields) (now : Moment) (sought : Option SoughtNames)
    (said : List ℕ) : Type 0 where
  pub files : List FileFields
  pub lists : List FileFields
  pub locators : List LocatorFields
  pub of_files : List ℕ
  pub are_read : AreRead reads r files lists locators of_files
  pub gives : IsSearchOf r now files lists locators sought
  pub of_search : List ℕ
  pub says : SaysOfSearch (tree_question_of r now files locators) sought of_search
  pub said_is : said ≡ of_files ++ of_search
