-- How a run of the command ends, and what it writes, by what reading files and listing folders
-- gives and by what a clock tells (own).
use Rattle.std.specs.Prelude.{◌≡◌, ◌≢◌, ◌⊎◌, ℕ, List, [], ◌∷◌, ◌++◌, Option, Some, None, IsFalse, IsTrue}
use Rattle.std.specs.Bool.{MatchBool}
use Rattle.std.specs.Io.KnownBytes.{Appends}
use Rattle.rpki_der.specs.Times.{Moment}
use Rattle.rpki_files.specs.Files.{FileFields}
use Rattle.rpki_verdicts.specs.GivenLocators.{LocatorFields, locator_files}
use Rattle.rpki_command.specs.AboutTexts.{help_text, topic_of, version_text}
use Rattle.rpki_answers.specs.AnswerTexts.{IsTextBy, IsJsonBy}
use Rattle.rpki_text.specs.CommandLines.{RequestFields, with_files, IsCommandLine}
use Rattle.rpki_command.specs.declared.about.Topic.{Topic}
use Rattle.rpki_command.specs.ListedFolders.{ListsFolder, AreFilesOf, roots_of}
use Rattle.rpki_answers.specs.Outcomes.{EndsBy}
use Rattle.rpki_command.specs.Messages.{SaysLineMisuse}
use Rattle.rpki_command.specs.Moments.{IsMomentBy}
use Rattle.rpki_command.specs.Outputs.{MadeFile, Makes, Output}
use Rattle.rpki_command.specs.NamedFiles.{AreRead}
use Rattle.rpki_command.specs.ReadFiles.{ReadsFile}
use Rattle.rpki_command.specs.RequestRuns.{RequestEnds}
use Rattle.rpki_requests.specs.RequestWords.{BeginsRequest}
use Rattle.rpki_command.specs.SoughtPaths.{IsPathSearch, with_sought}
use Rattle.rpki_text.specs.declared.command_line.arguments.Format.TheVariants.{Text}
use Rattle.rpki_text.specs.declared.command_line.arguments.Task.{Task}
use Rattle.rpki_text.specs.declared.command_line.arguments.Task.TheVariants.{Tree, Help, Version}
use Rattle.rpki_answers.specs.declared.outcomes.Outcome.{Outcome}
use Rattle.rpki_answers.specs.declared.outcomes.Outcome.TheVariants.{Success, WrongUse, Unread}
use Rattle.rpki_command.specs.declared.searching.SoughtNames.{SoughtNames}

-- ---- what is asked of files

-- the answer to a request at a moment, as if it weren't quiet, where reading files gives this: it
-- is that of those of its files, lists and locators that can be read; and what is said of the
-- others
pub record IsWholeAnswer (reads : ReadsFile) (r : RequestFields) (now : Moment) (outcome : Outcome) (text said : List ℕ) : Type 0 where
  pub files : List FileFields
  pub lists : List FileFields
  pub locators : List LocatorFields
  pub are_read : AreRead reads r files lists locators said
  pub ends : EndsBy r now files lists (locator_files locators) outcome
  pub text_is : r.format ≡ Text → IsTextBy r.task outcome r now files lists locators text
  pub json_is : r.format ≢ Text → IsJsonBy r.task outcome r now files lists locators text

-- the answer: this one, of which a quiet run leaves the text out, and not what is said
pub record IsRunAnswer (reads : ReadsFile) (r : RequestFields) (now : Moment) (outcome : Outcome) (text said : List ℕ) : Type 0 where
  pub told : List ℕ
  pub whole : IsWholeAnswer reads r now outcome told said
  pub quiet_is : IsTrue r.is_quiet → text ≡ []
  pub told_is : IsFalse r.is_quiet → text ≡ told

-- the same, where listing folders gives this: it is that of the files that stand for the names of
-- the request, below the folder that it names, if it names one alone
pub record IsAnswerOfNamed (reads : ReadsFile) (lists : ListsFolder) (r : RequestFields) (now : Moment)
    (outcome : Outcome) (text said : List ℕ) : Type 0 where
  pub names : List (List ℕ)
  pub of_folders : List ℕ
  pub of_files : List ℕ
  pub names_are : AreFilesOf lists r.task r.files names of_folders
  pub answer : IsRunAnswer reads (record r { files = names; folders = roots_of r.files }) now outcome text of_files
  pub said_is : said ≡ of_folders ++ of_files

-- the answer by what was sought: that to the same request of the files and the lists that were
-- found, which ends as unread where another file couldn't be read; or none, where what is asked for
-- couldn't be
abbrev pub IsAnswerBy : ReadsFile → RequestFields → Moment → Option SoughtNames → Outcome → List ℕ → List ℕ → Type 0
IsAnswerBy reads r now None outcome text said = (outcome ≡ Unread) × (text ≡ []) × (said ≡ [])
IsAnswerBy reads r now (Some sought) outcome text said =
    (found : Outcome) × IsRunAnswer reads (with_sought r sought) now found text said
    × MatchBool sought.are_all_read (outcome ≡ found) (outcome ≡ Unread)

-- the same request with these files behind its own, below the folder that it names, if it names one alone
abbrev pub with_files_below : RequestFields → List (List ℕ) → RequestFields
with_files_below r names = record (with_files r names) { folders = roots_of r.folders }

-- the answer where a path is sought in folders: among the request's file and those that stand for
-- the folders' names
pub record IsAnswerIn (reads : ReadsFile) (lists : ListsFolder) (r : RequestFields) (now : Moment)
    (outcome : Outcome) (text said : List ℕ) : Type 0 where
  pub names : List (List ℕ)
  pub of_folders : List ℕ
  pub names_are : AreFilesOf lists Tree r.folders names of_folders
  pub sought : Option SoughtNames
  pub of_search : List ℕ
  pub search : IsPathSearch reads (with_files_below r names) now sought of_search
  pub of_files : List ℕ
  pub answer : IsAnswerBy reads (with_files_below r names) now sought outcome text of_files
  pub said_is : said ≡ of_folders ++ of_search ++ of_files

-- the answer of files, which are sought where the request has folders
abbrev pub IsAnswerAmong : List (List ℕ) → ReadsFile → ListsFolder → RequestFields → Moment → Outcome → List ℕ → List ℕ → Type 0
IsAnswerAmong [] reads lists r now outcome text said = IsAnswerOfNamed reads lists r now outcome text said
IsAnswerAmong (folder ∷ folders) reads lists r now outcome text said = IsAnswerIn reads lists r now outcome text said

abbrev pub IsAnswerOf : ReadsFile → ListsFolder → RequestFields → Moment → Outcome → List ℕ → List ℕ → Type 0
IsAnswerOf reads lists r now outcome text said = IsAnswerAmong r.folders reads lists r now outcome text said

-- ---- a command line

-- what is asked ends so, with this text, and this is said: a text about the command and nothing, or
-- the answer of files
abbrev pub TaskEnds : Task → Topic → ReadsFile → ListsFolder → (Moment → Type 0) → RequestFields → Outcome → List ℕ → List ℕ → Type 0
TaskEnds Help topic reads lists tells r outcome text said = (outcome ≡ Success) × (text ≡ help_text topic) × (said ≡ [])
TaskEnds Version topic reads lists tells r outcome text said = (outcome ≡ Success) × (text ≡ version_text) × (said ≡ [])
TaskEnds _ topic reads lists tells r outcome text said =
    (now : Moment) × IsMomentBy tells r.at now × IsAnswerOf reads lists r now outcome text said

-- a run on these words ends so, with this text, and this is said: with wrong use, none, and what is
-- wrong exactly where they are no command line, else as what they ask does
abbrev pub LineEnds : ReadsFile → ListsFolder → (Moment → Type 0) → List (List ℕ) → Outcome → List ℕ → List ℕ → Type 0
LineEnds reads lists tells words WrongUse text said =
    ((r : RequestFields) → IsCommandLine r words → ⊥) × (text ≡ []) × SaysLineMisuse words said
LineEnds reads lists tells words outcome text said =
    (r : RequestFields) × IsCommandLine r words
    × TaskEnds r.task (topic_of words) reads lists tells r outcome text said

-- ---- a run

-- a run on these words ends so, and puts this out: as a request to prepare or to complete something
-- where they begin as one, else as a command line, which makes no file
abbrev pub RunEnds : ReadsFile → ListsFolder → (Moment → Type 0) → List (List ℕ) → Outcome → Output → Type 0
RunEnds reads lists tells words outcome output =
    (BeginsRequest words × RequestEnds reads tells words outcome output)
    ⊎ ((BeginsRequest words → ⊥) × LineEnds reads lists tells words outcome output.text output.said
    × (output.files ≡ []))

-- it ends so, and since then this was said, and these files were made
abbrev pub RunEndsAs : ReadsFile → ListsFolder → (Moment → Type 0) → List (List ℕ) → Outcome → Option (List ℕ) → Option (List ℕ)
    → Option (List MadeFile) → Option (List MadeFile) → Type 0
RunEndsAs reads lists tells words outcome before after made_before made_after =
    (output : Output) × RunEnds reads lists tells words outcome output
    × Appends before after output.said × Makes made_before made_after output.files
