-- Which words behind the program's name are a command line, and what it asks (own). A word is the
-- octets that the system has.
use Rattle.std.specs.Prelude.{◌≡◌, ◌≢◌, ◌<◌, ◌^◌, ◌⊎◌, ℕ, List, [], ◌∷◌, ◌++◌, length, Contains, Option, Some, None}
use Rattle.std.specs.Prelude.{Bool, true, false, fold, codes}
use Rattle.std.specs.Str.Parse.{IsNumeral, digits_value}
use Rattle.rpki_der.specs.Times.{Moment, IsMoment}
use Rattle.rpki_text.specs.MomentTexts.{IsMomentText}
use Rattle.rpki_text.specs.WordParts.{IsOption, GivesValue, AreInOrder, words_before, words_behind}
use Rattle.rpki_text.specs.declared.command_line.arguments.Format.{Format}
use Rattle.rpki_text.specs.declared.command_line.arguments.Format.TheVariants.{Text, Json, JsonLines}
use Rattle.rpki_text.specs.declared.command_line.arguments.Setting.{Setting}
use Rattle.rpki_text.specs.declared.command_line.arguments.Setting.TheVariants.{Crl, Tal, In, Depth, StepCount, At}
use Rattle.rpki_text.specs.declared.command_line.arguments.Setting.TheVariants.{MaxSize, Output, ShortOutput, Only}
use Rattle.rpki_text.specs.declared.command_line.arguments.Task.{Task}
use Rattle.rpki_text.specs.declared.command_line.arguments.Task.TheVariants.{Show, Validate, Tree, Help, Version}
pub mod Views
pub mod Steps

-- ---- words

-- the word is the task's name
abbrev pub IsTaskName : Task → List ℕ → Type 0
IsTaskName Show word = word ≡ codes "show"
IsTaskName Validate word = word ≡ codes "validate"
IsTaskName Tree word = word ≡ codes "tree"
IsTaskName Help word = (word ≡ codes "help") ⊎ ((word ≡ codes "--help") ⊎ (word ≡ codes "-h"))
IsTaskName Version word = (word ≡ codes "--version") ⊎ (word ≡ codes "-V")

-- the name of an option that takes a value
abbrev pub setting_name : Setting → List ℕ
setting_name Crl = codes "--crl"
setting_name Tal = codes "--tal"
setting_name In = codes "--in"
setting_name Depth = codes "--depth"
setting_name StepCount = codes "--steps"
setting_name At = codes "--at"
setting_name MaxSize = codes "--max-size"
setting_name Output = codes "--output"
setting_name ShortOutput = codes "-o"
setting_name Only = codes "--only"

-- the text is a number below 2^64 in decimal digits
abbrev pub IsCountText : ℕ → List ℕ → Type 0
IsCountText n text = IsNumeral 10 text × (digits_value 10 text ≡ n) × (n < 2 ^ 64)

-- the text is the format's name
abbrev pub IsFormatName : Format → List ℕ → Type 0
IsFormatName Text text = text ≡ codes "text"
IsFormatName Json text = text ≡ codes "json"
IsFormatName JsonLines text = text ≡ codes "jsonl"

-- what stands behind the task: files, and options, some with a value
pub data LinePart : Type 0 where
  file list locator folder : List ℕ → LinePart
  at_moment : Moment → LinePart
  depth steps max_size : ℕ → LinePart
  output : Format → LinePart
  lenient json quiet all no_names trust_first no_crl strict_exit only_rejected help : LinePart

-- the word is this option, which takes no value
abbrev pub IsSwitch : LinePart → List ℕ → Type 0
IsSwitch lenient word = word ≡ codes "--lenient"
IsSwitch json word = (word ≡ codes "--json") ⊎ (word ≡ codes "-j")
IsSwitch quiet word = (word ≡ codes "--quiet") ⊎ (word ≡ codes "-q")
IsSwitch all word = word ≡ codes "--all"
IsSwitch no_names word = word ≡ codes "--no-names"
IsSwitch trust_first word = word ≡ codes "--trust-first"
IsSwitch no_crl word = word ≡ codes "--no-crl"
IsSwitch strict_exit word = word ≡ codes "--strict-exit"
IsSwitch help word = (word ≡ codes "--help") ⊎ (word ≡ codes "-h")
IsSwitch _ word = ⊥

-- the words are this part
abbrev pub IsPart : LinePart → List (List ℕ) → Type 0
IsPart (file name) words = (words ≡ name ∷ []) × (IsOption name → ⊥)
IsPart (list name) words = GivesValue (setting_name Crl) name words
IsPart (locator name) words = GivesValue (setting_name Tal) name words
IsPart (folder name) words = GivesValue (setting_name In) name words
IsPart (at_moment m) words =
    (text : List ℕ) × GivesValue (setting_name At) text words × IsMoment m × IsMomentText m text
IsPart (depth n) words =
    (text : List ℕ) × GivesValue (setting_name Depth) text words × IsCountText n text
IsPart (steps n) words =
    (text : List ℕ) × GivesValue (setting_name StepCount) text words × IsCountText n text
IsPart (max_size n) words =
    (text : List ℕ) × GivesValue (setting_name MaxSize) text words × IsCountText n text
IsPart (output f) words =
    (text : List ℕ)
    × (GivesValue (setting_name Output) text words
    ⊎ GivesValue (setting_name ShortOutput) text words) × IsFormatName f text
IsPart only_rejected words = GivesValue (setting_name Only) (codes "rejected") words
IsPart part words = (word : List ℕ) × (words ≡ word ∷ []) × IsSwitch part word

-- the words are these parts, in any order
abbrev pub AreParts : List LinePart → List (List ℕ) → Type 0
AreParts parts words = AreInOrder IsPart parts words

-- ---- what they ask

-- the task, the moment if one is given, whether names are read strictly, the format of what is
-- printed, whether nothing is printed, whether all entries of a list are printed, how many octets a
-- file may have, whether names of issuer and subject have to be the same, the files, those given as
-- CRLs and as TALs, the folders in which a path is sought, whether the first certificate is trusted
-- without a TAL, whether revocation isn't checked, whether damage of a cache is an error, whether only
-- certificates that aren't accepted are printed, and, if they are given, how many certificates a path
-- has at most below the trust anchor, and how many are verified at most
pub record RequestFields : Type 0 where
  pub task : Task
  pub at : Option Moment
  pub strict : Bool
  pub format : Format
  pub is_quiet : Bool
  pub all_entries : Bool
  pub max_size : ℕ
  pub names : Bool
  pub files : List (List ℕ)
  pub lists : List (List ℕ)
  pub locators : List (List ℕ)
  pub folders : List (List ℕ)
  pub trust_first : Bool
  pub no_crl : Bool
  pub strict_exit : Bool
  pub only_rejected : Bool
  pub depth : Option ℕ
  pub steps : Option ℕ

-- how many octets a file may have where no word says it: 64 MiB
abbrev pub usual_size : ℕ
usual_size = 67_108_864

-- a task, and nothing more
abbrev pub only_task : Task → RequestFields
only_task task =
    record {
      task = task;
      at = None;
      strict = true;
      format = Text;
      is_quiet = false;
      all_entries = false;
      max_size = usual_size;
      names = true;
      files = [];
      lists = [];
      locators = [];
      folders = [];
      trust_first = false;
      no_crl = false;
      strict_exit = false;
      only_rejected = false;
      depth = None;
      steps = None;
    }

-- with more files
abbrev pub with_files : RequestFields → List (List ℕ) → RequestFields
with_files r more = record r { files = r.files ++ more }

-- with what a further part says; of several moments, numbers or formats the last one counts
abbrev pub with_part : RequestFields → LinePart → RequestFields
with_part r (file name) = record r { files = r.files ++ name ∷ [] }
with_part r (list name) = record r { lists = r.lists ++ name ∷ [] }
with_part r (locator name) = record r { locators = r.locators ++ name ∷ [] }
with_part r (folder name) = record r { folders = r.folders ++ name ∷ [] }
with_part r (at_moment m) = record r { at = Some m }
with_part r (depth n) = record r { depth = Some n }
with_part r (steps n) = record r { steps = Some n }
with_part r (max_size n) = record r { max_size = n }
with_part r (output f) = record r { format = f }
with_part r lenient = record r { strict = false }
with_part r json = record r { format = Json }
with_part r quiet = record r { is_quiet = true }
with_part r all = record r { all_entries = true }
with_part r no_names = record r { names = false }
with_part r trust_first = record r { trust_first = true }
with_part r no_crl = record r { no_crl = true }
with_part r strict_exit = record r { strict_exit = true }
with_part r only_rejected = record r { only_rejected = true }
with_part r help = record r { task = Help }

-- with what these parts say, one after the other
abbrev pub with_parts : RequestFields → List LinePart → RequestFields
with_parts r parts = fold with_part r parts

-- it isn't said how far a walk down from a trust anchor goes
abbrev pub AsksNoBounds : RequestFields → Type 0
AsksNoBounds r = (r.depth ≡ None) × (r.steps ≡ None)

-- nothing is left out: neither TAL nor CRLs
abbrev pub LeavesNothingOut : RequestFields → Type 0
LeavesNothingOut r = (r.trust_first ≡ false) × (r.no_crl ≡ false)

-- nothing is said that only a path is asked about: no lists, no locators, no folders, not that
-- names, TAL or CRLs are left out, and no bounds
abbrev pub AsksNoPath : RequestFields → Type 0
AsksNoPath r =
    (r.lists ≡ []) × (r.locators ≡ []) × (r.folders ≡ []) × (r.names ≡ true) × LeavesNothingOut r
    × AsksNoBounds r

-- one of the names is that of standard input
abbrev pub NamesInput : List (List ℕ) → Type 0
NamesInput names = Contains names (codes "-")

-- a file that is sought, a folder or a locator is standard input, which could be read only once
abbrev pub ReadsInput : RequestFields → Type 0
ReadsInput r = NamesInput r.files ⊎ (NamesInput r.folders ⊎ NamesInput r.locators)

-- what a path wants that is sought: one file, to which it is to lead, and locators; no lists, which
-- the folders have; and nothing from standard input, since files are read twice
abbrev pub AsksSearch : RequestFields → Type 0
AsksSearch r = (length r.files ≡ 1) × (r.lists ≡ []) × (r.locators ≢ []) × (ReadsInput r → ⊥)

-- where there are folders, the path is sought in them, by a walk that may have bounds
abbrev pub SuitsFolders : List (List ℕ) → RequestFields → Type 0
SuitsFolders [] r = AsksNoBounds r
SuitsFolders (first ∷ more) r = AsksSearch r

-- what a tree wants: locators, and no option that it doesn't take
abbrev pub AsksTree : RequestFields → Type 0
AsksTree r =
    (r.lists ≡ []) × (r.folders ≡ []) × (r.all_entries ≡ false) × LeavesNothingOut r
    × (r.locators ≢ [])

-- nothing is said that only a tree is asked about
abbrev pub AsksNoTree : RequestFields → Type 0
AsksNoTree r = (r.strict_exit ≡ false) × (r.only_rejected ≡ false)

-- it is said once what the trust anchor is compared with: TALs, or nothing
abbrev pub SaysAnchor : RequestFields → Type 0
SaysAnchor r =
    ((r.locators ≢ []) × (r.trust_first ≡ false)) ⊎ ((r.locators ≡ []) × (r.trust_first ≡ true))

-- CRLs are given, or folders that have them
abbrev pub GivesLists : RequestFields → Type 0
GivesLists r = (r.lists ≢ []) ⊎ (r.folders ≢ [])

-- it is said once which CRLs are checked: those that are given, or none
abbrev pub SaysLists : RequestFields → Type 0
SaysLists r =
    (GivesLists r × (r.no_crl ≡ false))
    ⊎ ((r.lists ≡ []) × (r.folders ≡ []) × (r.no_crl ≡ true))

-- what the task wants: files, and no option that only another task takes
abbrev pub Suits : Task → RequestFields → Type 0
Suits Show r = (r.files ≢ []) × AsksNoPath r × AsksNoTree r
Suits Validate r =
    (r.files ≢ []) × (r.all_entries ≡ false) × SuitsFolders r.folders r × SaysAnchor r × SaysLists r
    × AsksNoTree r
Suits Tree r = (r.files ≢ []) × AsksTree r
Suits _ r = Unit {0}

-- the words are a command line that asks this: the name of a task, then parts, and perhaps `--` and
-- files
pub record IsCommandLine (r : RequestFields) (words : List (List ℕ)) : Type 0 where
  pub first : List ℕ
  pub rest : List (List ℕ)
  pub words_are : words ≡ first ∷ rest
  pub task : Task
  pub task_is : IsTaskName task first
  pub parts : List LinePart
  pub parts_are : AreParts parts (words_before rest)
  pub asks : r ≡ with_files (with_parts (only_task task) parts) (words_behind rest)
  pub suits : Suits r.task r
