-- What is told of words that are no command line: something that is wrong with them, of the first
-- word that is wrong, or of what they ask (own).
use Rattle.std.specs.Prelude.{◌≡◌, ◌≢◌, ◌⊎◌, ℕ, List, [], ◌∷◌, ◌++◌, length, None, true, false, codes}
use Rattle.rpki_text.specs.declared.command_line.arguments.Misuse.{Misuse}
use Rattle.rpki_text.specs.declared.command_line.arguments.Misuse.TheVariants.{NoTask, UnknownTask, Unknown, NoValue}
use Rattle.rpki_text.specs.declared.command_line.arguments.Misuse.TheVariants.{WrongValue, NoFile, OneFile, ListsIn}
use Rattle.rpki_text.specs.declared.command_line.arguments.Misuse.TheVariants.{NoLocator, NoLocatorIn, BoundsIn}
use Rattle.rpki_text.specs.declared.command_line.arguments.Misuse.TheVariants.{InputIn, NoAnchor, BothAnchors}
use Rattle.rpki_text.specs.declared.command_line.arguments.Misuse.TheVariants.{NoLists, BothLists}
use Rattle.rpki_text.specs.declared.command_line.arguments.Setting.{Setting}
use Rattle.rpki_text.specs.declared.command_line.arguments.Task.{Task}
use Rattle.rpki_text.specs.declared.command_line.arguments.Task.TheVariants.{Show, Validate, Tree, Help, Version}
use Rattle.rpki_text.specs.CommandLines.{IsPart, IsTaskName, LinePart, AreParts, RequestFields, only_task}
use Rattle.rpki_text.specs.CommandLines.{setting_name, with_files, with_parts, AsksNoBounds, GivesLists, ReadsInput}
use Rattle.rpki_text.specs.WordParts.{IsFirstWrong, IsOption, GivesValue, Joins, words_before, words_behind}
pub mod Steps

-- ---- a word behind the task

-- the word is an option that there isn't: it is no part by itself, and neither the name of an
-- option that takes a value nor such a name joined to one
abbrev pub IsUnknownOption : List ℕ → Type 0
IsUnknownOption word =
    IsOption word × ((part : LinePart) → IsPart part (word ∷ []) → ⊥)
    × ((setting : Setting) → word ≡ setting_name setting → ⊥)
    × ((setting : Setting) (value : List ℕ) → Joins (setting_name setting) value word → ⊥)

-- the words begin with this option and this value, as the next word or behind `=`
abbrev pub BeginsWithOption : Setting → List ℕ → List (List ℕ) → Type 0
BeginsWithOption setting value words =
    (front : List (List ℕ)) × (rest : List (List ℕ)) × GivesValue (setting_name setting) value front
    × (words ≡ front ++ rest)

-- the option and this value, as two words, are a part
abbrev pub TakesValue : Setting → List ℕ → Type 0
TakesValue setting value = (part : LinePart) × IsPart part (setting_name setting ∷ value ∷ [])

-- the words begin with what is told: with an option that there isn't, with one whose value is
-- missing, or with one and a value that it doesn't take
abbrev pub IsWrongFirst : Misuse → List (List ℕ) → Type 0
IsWrongFirst (Unknown word) words =
    (rest : List (List ℕ)) × (words ≡ word.now ∷ rest) × IsUnknownOption word.now
IsWrongFirst (NoValue setting) words = words ≡ setting_name setting ∷ []
IsWrongFirst (WrongValue setting value) words =
    BeginsWithOption setting value.now words × (TakesValue setting value.now → ⊥)
IsWrongFirst _ words = ⊥

-- ---- what is asked

-- TAL or CRLs are left out by the option of this name
abbrev pub IsLeftOutBy : List ℕ → RequestFields → Type 0
IsLeftOutBy name r =
    ((name ≡ codes "--trust-first") × (r.trust_first ≡ true))
    ⊎ ((name ≡ codes "--no-crl") × (r.no_crl ≡ true))

-- an option of this name is given that only a tree takes
abbrev pub IsOfTree : List ℕ → RequestFields → Type 0
IsOfTree name r =
    ((name ≡ codes "--strict-exit") × (r.strict_exit ≡ true))
    ⊎ ((name ≡ codes "--only") × (r.only_rejected ≡ true))

-- an option of this name is given, and the task doesn't take it
abbrev pub IsExtra : Task → List ℕ → RequestFields → Type 0
IsExtra Show name r =
    ((name ≡ codes "--crl") × (r.lists ≢ []))
    ⊎ (((name ≡ codes "--tal") × (r.locators ≢ []))
    ⊎ (((name ≡ codes "--in") × (r.folders ≢ []))
    ⊎ (((name ≡ codes "--no-names") × (r.names ≡ false))
    ⊎ (IsLeftOutBy name r
    ⊎ (((name ≡ codes "--depth") × (r.depth ≢ None))
    ⊎ (((name ≡ codes "--steps") × (r.steps ≢ None)) ⊎ IsOfTree name r))))))
IsExtra Validate name r = ((name ≡ codes "--all") × (r.all_entries ≡ true)) ⊎ IsOfTree name r
IsExtra Tree name r =
    ((name ≡ codes "--crl") × (r.lists ≢ []))
    ⊎ (((name ≡ codes "--in") × (r.folders ≢ []))
    ⊎ (((name ≡ codes "--all") × (r.all_entries ≡ true)) ⊎ IsLeftOutBy name r))
IsExtra _ name r = ⊥

-- a path is to be sought in folders
abbrev pub SeeksPath : Task → RequestFields → Type 0
SeeksPath task r = (task ≡ Validate) × (r.folders ≢ [])

-- what is told is a reason why this doesn't suit the task
abbrev pub IsReason : Misuse → Task → RequestFields → Type 0
IsReason (Unknown name) task r = IsExtra task name.now r
IsReason NoFile task r = (task ≢ Help) × (task ≢ Version) × (r.files ≡ [])
IsReason OneFile task r = SeeksPath task r × (length r.files ≢ 1)
IsReason ListsIn task r = SeeksPath task r × (r.lists ≢ [])
IsReason NoLocator task r = (task ≡ Tree) × (r.locators ≡ [])
IsReason NoLocatorIn task r = SeeksPath task r × (r.locators ≡ [])
IsReason BoundsIn task r = (task ≡ Validate) × (r.folders ≡ []) × (AsksNoBounds r → ⊥)
IsReason InputIn task r = SeeksPath task r × ReadsInput r
IsReason NoAnchor task r = (task ≡ Validate) × (r.locators ≡ []) × (r.trust_first ≡ false)
IsReason BothAnchors task r = (task ≡ Validate) × (r.locators ≢ []) × (r.trust_first ≡ true)
IsReason NoLists task r = (task ≡ Validate) × (GivesLists r → ⊥) × (r.no_crl ≡ false)
IsReason BothLists task r = (task ≡ Validate) × GivesLists r × (r.no_crl ≡ true)
IsReason _ task r = ⊥

-- the words behind the task are parts, and what they ask doesn't suit its task, as is told
pub record IsUnsuited (misuse : Misuse) (task : Task) (words : List (List ℕ)) : Type 0 where
  pub parts : List LinePart
  pub parts_are : AreParts parts (words_before words)
  pub r : RequestFields
  pub asks : r ≡ with_files (with_parts (only_task task) parts) (words_behind words)
  pub reason : IsReason misuse r.task r

-- ---- all words

-- no task has this name, as is told
abbrev pub IsUnknownTask : Misuse → List ℕ → Type 0
IsUnknownTask (UnknownTask word) name =
    (word.now ≡ name) × ((task : Task) → IsTaskName task name → ⊥)
IsUnknownTask _ name = ⊥

-- what is told of the words is so: there are none; or the first names no task; or it names one, and
-- of those behind it the first that is wrong is told, or why what they ask doesn't suit its task
abbrev pub IsMisuse : Misuse → List (List ℕ) → Type 0
IsMisuse misuse [] = misuse ≡ NoTask
IsMisuse misuse (first ∷ rest) =
    IsUnknownTask misuse first
    ⊎ ((task : Task) × IsTaskName task first
    × (IsFirstWrong IsPart IsWrongFirst misuse (words_before rest) ⊎ IsUnsuited misuse task rest))
