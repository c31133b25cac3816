-- What is told of words that ask for nothing to be prepared or completed: something that is wrong
-- with them, of the first word that is wrong, or of what they ask; and what is said of it (own).
use Rattle.std.specs.Prelude.{◌≡◌, ◌≢◌, ◌≤◌, ◌⊎◌, ℕ, List, [], ◌∷◌, ◌++◌, length, map, fold, true, false, codes}
use Rattle.rpki_document.specs.Texts.{characters_text}
use Rattle.rpki_text.specs.WordParts.{AreInOrder, IsFirstWrong, IsOption, Joins, words_before, words_behind}
use Rattle.rpki_requests.specs.ExpectedValues.{asked_value_expected}
use Rattle.rpki_requests.specs.RequestWords.{AskedFields, IsRequestPart, RequestPart, demand, errand_words, file}
use Rattle.rpki_requests.specs.RequestWords.{files_wanted, only_errand, asked_option_name, switch_name, takes}
use Rattle.rpki_requests.specs.RequestWords.{given_values}
use Rattle.rpki_requests.specs.RequestWords.{with_request_part}
use Rattle.rpki_requests.specs.declared.words.Demand.{Demand}
use Rattle.rpki_requests.specs.declared.words.Demand.TheVariants.{Never, AtMostOnce, Once, AtLeastOnce}
use Rattle.rpki_requests.specs.declared.words.Errand.{Errand}
use Rattle.rpki_requests.specs.declared.words.Misuse.{Misuse}
use Rattle.rpki_requests.specs.declared.words.Misuse.TheVariants.{NoErrand, UnknownErrand, Unknown, NoValue}
use Rattle.rpki_requests.specs.declared.words.Misuse.TheVariants.{Unsuited, UnsuitedSwitch, Missing, Repeated}
use Rattle.rpki_requests.specs.declared.words.Misuse.TheVariants.{Files, Memory}
use Rattle.rpki_requests.specs.declared.words.Setting.{Setting}
use Rattle.rpki_requests.specs.declared.words.Switch.{Switch}
use Rattle.rpki_requests.specs.declared.words.Switch.TheVariants.{Trim, Pem}

-- ---- the first words

-- they begin as no request does, as is told: there are none, or none behind `prepare`; or one is
-- none of those that name what is asked
abbrev pub IsNoErrand : Misuse → List (List ℕ) → Type 0
IsNoErrand NoErrand words = (words ≡ []) ⊎ (words ≡ codes "prepare" ∷ [])
IsNoErrand (UnknownErrand word) words =
    ((rest : List (List ℕ)) × (words ≡ word.now ∷ rest)
    × (word.now ≢ codes "prepare") × (word.now ≢ codes "complete"))
    ⊎ ((rest : List (List ℕ)) × (words ≡ codes "prepare" ∷ word.now ∷ rest)
    × ((errand : Errand) → errand_words errand ≡ codes "prepare" ∷ word.now ∷ [] → ⊥))
IsNoErrand _ words = ⊥

-- ---- a word behind them

-- the word is an option that there isn't
abbrev pub IsUnknownRequestOption : List ℕ → Type 0
IsUnknownRequestOption word =
    IsOption word × ((setting : Setting) → word ≡ asked_option_name setting → ⊥)
    × ((setting : Setting) (value : List ℕ) → Joins (asked_option_name setting) value word → ⊥)
    × ((given : Switch) → word ≡ switch_name given → ⊥)

-- the words begin with what is told: with an option that there isn't, or with one whose value is
-- missing
abbrev pub IsWrongRequestStart : Misuse → List (List ℕ) → Type 0
IsWrongRequestStart (Unknown word) words =
    (rest : List (List ℕ)) × (words ≡ word.now ∷ rest) × IsUnknownRequestOption word.now
IsWrongRequestStart (NoValue setting) words = words ≡ asked_option_name setting ∷ []
IsWrongRequestStart _ words = ⊥

-- ---- what is asked

-- an option that stands so often isn't demanded so, as is told: it has no place here, is missing,
-- or stands twice
abbrev pub IsWrongCount : Misuse → Setting → Demand → ℕ → Type 0
IsWrongCount (Unsuited option) setting often times = (option ≡ setting) × (often ≡ Never) × (1 ≤ times)
IsWrongCount (Missing option) setting often times =
    (option ≡ setting) × ((often ≡ Once) ⊎ (often ≡ AtLeastOnce)) × (times ≡ 0)
IsWrongCount (Repeated option) setting often times =
    (option ≡ setting) × ((often ≡ Once) ⊎ (often ≡ AtMostOnce)) × (2 ≤ times)
IsWrongCount _ setting often times = ⊥

-- so it is of one option that takes a value
abbrev pub HasWrongCount : Misuse → AskedFields → Type 0
HasWrongCount misuse asked =
    (setting : Setting)
    × IsWrongCount misuse setting (demand setting asked.errand) (length (given_values setting asked.given))

-- what is told is a reason why this doesn't suit its errand
abbrev pub IsErrandReason : Misuse → AskedFields → Type 0
IsErrandReason (UnsuitedSwitch Trim) asked = (asked.trims ≡ true) × (takes Trim asked.errand ≡ false)
IsErrandReason (UnsuitedSwitch Pem) asked = (asked.is_pem ≡ true) × (takes Pem asked.errand ≡ false)
IsErrandReason (UnsuitedSwitch _) asked = ⊥
IsErrandReason Files asked = length asked.files ≢ files_wanted asked.errand
IsErrandReason misuse asked = HasWrongCount misuse asked

-- the words behind those of the errand are parts, and what they ask doesn't suit it, as is told
pub record IsUnsuitedRequest (misuse : Misuse) (errand : Errand) (words : List (List ℕ)) : Type 0 where
  pub parts : List RequestPart
  pub parts_are : AreInOrder IsRequestPart parts (words_before words)
  pub asked : AskedFields
  pub asks : asked ≡ fold with_request_part (only_errand errand) (parts ++ map file (words_behind words))
  pub reason : IsErrandReason misuse asked

-- ---- all words

-- what is told of the words is so: they begin as no request does; or behind what they ask is the
-- first word that is wrong, or it doesn't suit what is asked
abbrev pub IsRequestMisuse : Misuse → List (List ℕ) → Type 0
IsRequestMisuse misuse words =
    IsNoErrand misuse words
    ⊎ ((errand : Errand) × (rest : List (List ℕ)) × (words ≡ errand_words errand ++ rest)
    × (IsFirstWrong IsRequestPart IsWrongRequestStart misuse (words_before rest) ⊎ IsUnsuitedRequest misuse errand
    rest))

-- ---- what is said of it

-- what can be prepared
abbrev pub kinds : List ℕ
kinds = codes "ca, ee, detached, router, anchor or list"

-- that there is no such option, or that what is asked doesn't take it
abbrev pub no_option : List ℕ
no_option = codes ": not an option of this command"

-- what is wrong first, and what is expected
abbrev pub request_misuse_text : Misuse → List ℕ
request_misuse_text NoErrand = codes "nothing to prepare; expected " ++ kinds
request_misuse_text (UnknownErrand word) =
    characters_text word.now ++ (codes ": unknown kind; expected " ++ kinds)
request_misuse_text (Unknown word) = characters_text word.now ++ no_option
request_misuse_text (NoValue setting) =
    asked_option_name setting ++ (codes ": no value; expected " ++ asked_value_expected setting)
request_misuse_text (Unsuited setting) = asked_option_name setting ++ no_option
request_misuse_text (UnsuitedSwitch given) = switch_name given ++ no_option
request_misuse_text (Missing setting) =
    asked_option_name setting ++ (codes ": missing; expected " ++ asked_value_expected setting)
request_misuse_text (Repeated setting) = asked_option_name setting ++ codes ": given more than once; expected once"
request_misuse_text Files =
    codes "wrong number of files; expected PREPARED and SIGNATURE for complete, none for prepare"
request_misuse_text Memory = codes "out of memory"
