-- What is read of the files that a request names, and what is said of those that can't be read
-- (own).
use Rattle.std.specs.Prelude.{◌≡◌, ◌⊎◌, ℕ, All, List, [], ◌∷◌, ◌++◌}
use Rattle.rpki_text.specs.CommandLines.{RequestFields}
use Rattle.rpki_files.specs.Files.{FileFields}
use Rattle.rpki_verdicts.specs.GivenLocators.{LocatorFields, IsRead, locator_files}
use Rattle.rpki_command.specs.ReadFiles.{ReadsFile, IsFileRead, IsObjectRead}
use Rattle.rpki_command.specs.UnreadFiles.{SaysUnread}

-- ---- the files of several names

-- of some of these names, in their order, a file that is its name's; and of each of the rest a
-- line, which is all that is said
abbrev pub AreReadOf : (List ℕ → FileFields → Type 0) → (List ℕ → List ℕ → Type 0) → List (List ℕ) → List FileFields → List ℕ → Type 0
AreReadOf Is Tells [] files said = (files ≡ []) × (said ≡ [])
AreReadOf Is Tells (name ∷ names) files said =
    ((file : FileFields) × (more : List FileFields) × Is name file × AreReadOf Is Tells names more said × (files ≡ file ∷ more))
    ⊎ ((line : List ℕ) × (lines : List ℕ) × Tells name line × AreReadOf Is Tells names files lines × (said ≡ line ++ lines))

-- the files of these names that can be read, as they are, and by their objects; of each of the rest
-- it is said why it can't be read
abbrev pub AreFilesRead : ReadsFile → ℕ → List (List ℕ) → List FileFields → List ℕ → Type 0
AreFilesRead reads most names files said =
    AreReadOf (IsFileRead reads most) (SaysUnread reads most) names files said

abbrev pub AreObjectsRead : ReadsFile → ℕ → List (List ℕ) → List FileFields → List ℕ → Type 0
AreObjectsRead reads most names files said =
    AreReadOf (IsObjectRead reads most) (SaysUnread reads most) names files said

-- files of some of these names, in their order
abbrev pub AreSomeNamed : List (List ℕ) → List FileFields → Type 0
AreSomeNamed [] files = files ≡ []
AreSomeNamed (name ∷ names) files =
    ((file : FileFields) × (more : List FileFields) × (file.name ≡ name) × AreSomeNamed names more × (files ≡ file ∷ more))
    ⊎ AreSomeNamed names files

-- ---- those of a request

-- what can be read of the files, lists and locators that the request names is this, and this is
-- said of the others
pub record AreRead (reads : ReadsFile) (r : RequestFields) (files lists : List FileFields) (locators : List LocatorFields)
    (said : List ℕ) : Type 0 where
  pub of_files : List ℕ
  pub of_lists : List ℕ
  pub of_locators : List ℕ
  pub files_are : AreObjectsRead reads r.max_size r.files files of_files
  pub lists_are : AreObjectsRead reads r.max_size r.lists lists of_lists
  pub locators_are : AreFilesRead reads r.max_size r.locators (locator_files locators) of_locators
  pub locators_read : All (IsRead r.strict) locators
  pub said_is : said ≡ of_files ++ of_lists ++ of_locators

-- these have some of the names that the request names, and each locator was read of its file
pub record AreNamedAndRead (r : RequestFields) (files lists : List FileFields) (locators : List LocatorFields) : Type 0 where
  pub files_are : AreSomeNamed r.files files
  pub lists_are : AreSomeNamed r.lists lists
  pub locators_are : AreSomeNamed r.locators (locator_files locators)
  pub locators_read : All (IsRead r.strict) locators
