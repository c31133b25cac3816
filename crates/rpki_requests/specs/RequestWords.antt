-- Which words behind the program's name ask for a certificate or a revocation list to be prepared
-- or completed, and what they ask (own). A word is the octets that the system has.
use Rattle.std.specs.Prelude.{◌≡◌, ◌≤◌, ◌⊎◌, ℕ, List, [], ◌∷◌, ◌++◌, length, map, filter, Contains, Bool, true}
use Rattle.std.specs.Prelude.{false, fold, codes}
use Rattle.std.specs.Str.{bytes_eq}
use Rattle.rpki_text.specs.WordParts.{IsOption, GivesValue, AreInOrder, words_before, words_behind}
use Rattle.rpki_requests.specs.declared.words.Demand.{Demand}
use Rattle.rpki_requests.specs.declared.words.Demand.TheVariants.{Never, AtMostOnce, Once, AnyNumber, AtLeastOnce}
use Rattle.rpki_requests.specs.declared.words.Errand.{Errand}
use Rattle.rpki_requests.specs.declared.words.Errand.TheVariants.{Authority, EndEntity, Detached, Router, Anchor}
use Rattle.rpki_requests.specs.declared.words.Errand.TheVariants.{RevocationList, Completion}
use Rattle.rpki_requests.specs.declared.words.Setting.{Setting}
use Rattle.rpki_requests.specs.declared.words.Setting.TheVariants.{Issuer, Key, Serial, From, Until, Ipv4, Ipv6}
use Rattle.rpki_requests.specs.declared.words.Setting.TheVariants.{AsNumbers, Repository, Manifest, Notify, Object}
use Rattle.rpki_requests.specs.declared.words.Setting.TheVariants.{IssuerUri, CrlUri, Crl, Previous, Number, Revoke}
use Rattle.rpki_requests.specs.declared.words.Setting.TheVariants.{NextUpdate, At, Out}
use Rattle.rpki_requests.specs.declared.words.Switch.{Switch}
use Rattle.rpki_requests.specs.declared.words.Switch.TheVariants.{Trim, Lenient, Pem, Force}
pub mod Views

-- ---- words

-- the words that begin a request
abbrev pub errand_words : Errand → List (List ℕ)
errand_words Authority = codes "prepare" ∷ codes "ca" ∷ []
errand_words EndEntity = codes "prepare" ∷ codes "ee" ∷ []
errand_words Detached = codes "prepare" ∷ codes "detached" ∷ []
errand_words Router = codes "prepare" ∷ codes "router" ∷ []
errand_words Anchor = codes "prepare" ∷ codes "anchor" ∷ []
errand_words RevocationList = codes "prepare" ∷ codes "list" ∷ []
errand_words Completion = codes "complete" ∷ []

-- the first word is one that requests begin with
abbrev pub BeginsRequest : List (List ℕ) → Type 0
BeginsRequest words =
    (first : List ℕ) × (rest : List (List ℕ)) × (words ≡ first ∷ rest)
    × ((first ≡ codes "prepare") ⊎ (first ≡ codes "complete"))

-- `--help` or `-h` stands before `--`: the words ask how the command is used, and nothing else
abbrev pub AsksHelp : List (List ℕ) → Type 0
AsksHelp words =
    Contains (words_before words) (codes "--help") ⊎ Contains (words_before words) (codes "-h")

-- the name of an option that takes a value
abbrev pub asked_option_name : Setting → List ℕ
asked_option_name Issuer = codes "--issuer"
asked_option_name Key = codes "--key"
asked_option_name Serial = codes "--serial"
asked_option_name From = codes "--from"
asked_option_name Until = codes "--until"
asked_option_name Ipv4 = codes "--ipv4"
asked_option_name Ipv6 = codes "--ipv6"
asked_option_name AsNumbers = codes "--as"
asked_option_name Repository = codes "--repository"
asked_option_name Manifest = codes "--manifest"
asked_option_name Notify = codes "--notify"
asked_option_name Object = codes "--object"
asked_option_name IssuerUri = codes "--issuer-uri"
asked_option_name CrlUri = codes "--crl-uri"
asked_option_name Crl = codes "--crl"
asked_option_name Previous = codes "--previous"
asked_option_name Number = codes "--number"
asked_option_name Revoke = codes "--revoke"
asked_option_name NextUpdate = codes "--next-update"
asked_option_name At = codes "--at"
asked_option_name Out = codes "--out"

-- the name of one that takes none
abbrev pub switch_name : Switch → List ℕ
switch_name Trim = codes "--trim"
switch_name Lenient = codes "--lenient"
switch_name Pem = codes "--pem"
switch_name Force = codes "--force"

-- an option with its value
pub record OptionFields : Type 0 where
  pub setting : Setting
  pub value : List ℕ

-- what stands behind the errand
pub data RequestPart : Type 0 where
  file : List ℕ → RequestPart
  option : OptionFields → RequestPart
  switch : Switch → RequestPart

-- the words are this part
abbrev pub IsRequestPart : RequestPart → List (List ℕ) → Type 0
IsRequestPart (file name) words = (words ≡ name ∷ []) × (IsOption name → ⊥)
IsRequestPart (option g) words = GivesValue (asked_option_name g.setting) g.value words
IsRequestPart (switch s) words = words ≡ switch_name s ∷ []

-- ---- what they ask

-- the errand, the options that take a value and the files, each in the order of the words, whether
-- resources that the issuer doesn't hold are trimmed, whether names are read strictly, whether what
-- is completed is written in PEM, and whether a file that is there is overwritten
pub record AskedFields : Type 0 where
  pub errand : Errand
  pub given : List OptionFields
  pub files : List (List ℕ)
  pub trims : Bool
  pub strict : Bool
  pub is_pem : Bool
  pub overwrites : Bool

-- an errand, and nothing more
abbrev pub only_errand : Errand → AskedFields
only_errand errand =
    record {
      errand = errand;
      given = [];
      files = [];
      trims = false;
      strict = true;
      is_pem = false;
      overwrites = false;
    }

-- with what a further part says
abbrev pub with_request_part : AskedFields → RequestPart → AskedFields
with_request_part asked (file name) = record asked { files = asked.files ++ name ∷ [] }
with_request_part asked (option g) = record asked { given = asked.given ++ g ∷ [] }
with_request_part asked (switch Trim) = record asked { trims = true }
with_request_part asked (switch Lenient) = record asked { strict = false }
with_request_part asked (switch Pem) = record asked { is_pem = true }
with_request_part asked (switch Force) = record asked { overwrites = true }

-- ---- which options suit an errand

-- the options are the same
abbrev pub is_same : Setting → Setting → Bool
is_same a b = bytes_eq (asked_option_name a) (asked_option_name b)

-- the values that an option is given, in the order of the words
abbrev pub given_values : Setting → List OptionFields → List (List ℕ)
given_values setting given = map (λ g. g.value) (filter (λ g. is_same g.setting setting) given)

-- how often certificates take an option that nothing else takes
abbrev pub of_certificates : Demand → Errand → Demand
of_certificates often RevocationList = Never
of_certificates often Completion = Never
of_certificates often _ = often

-- how often those below an issuer do
abbrev pub of_issued : Demand → Errand → Demand
of_issued often Anchor = Never
of_issued often errand = of_certificates often errand

-- how often those of CAs and trust anchors do
abbrev pub of_authorities : Demand → Errand → Demand
of_authorities often Authority = often
of_authorities often Anchor = often
of_authorities often _ = Never

-- how often those of revocation lists do
abbrev pub of_lists : Demand → Errand → Demand
of_lists often RevocationList = often
of_lists often _ = Never

-- how often the issuer's path is given, which a trust anchor has none of
abbrev pub issuers_demand : Errand → Demand
issuers_demand Anchor = Never
issuers_demand Completion = AnyNumber
issuers_demand _ = AtLeastOnce

-- how often lists are that this path is judged with
abbrev pub lists_demand : Errand → Demand
lists_demand Anchor = Never
lists_demand _ = AnyNumber

-- how often serial numbers are: a certificate has one, and a list revokes any number
abbrev pub serial_demand : Errand → Demand
serial_demand RevocationList = AnyNumber
serial_demand errand = of_certificates Once errand

-- how often addresses are, of which a router has none (RFC 8209 3.1.3.4)
abbrev pub addresses_demand : Errand → Demand
addresses_demand Router = Never
addresses_demand errand = of_certificates AnyNumber errand

-- how often AS numbers are, of which a router has some (RFC 8209 3.1.3.5)
abbrev pub numbers_demand : Errand → Demand
numbers_demand Router = AtLeastOnce
numbers_demand errand = of_certificates AnyNumber errand

-- how often the signed object is
abbrev pub object_demand : Errand → Demand
object_demand EndEntity = Once
object_demand _ = Never

-- how often an errand takes an option
abbrev pub demand : Setting → Errand → Demand
demand Issuer errand = issuers_demand errand
demand Key errand = of_certificates Once errand
demand Serial errand = serial_demand errand
demand From errand = of_certificates Once errand
demand Until errand = of_certificates Once errand
demand Ipv4 errand = addresses_demand errand
demand Ipv6 errand = addresses_demand errand
demand AsNumbers errand = numbers_demand errand
demand Repository errand = of_authorities Once errand
demand Manifest errand = of_authorities Once errand
demand Notify errand = of_authorities AtMostOnce errand
demand Object errand = object_demand errand
demand IssuerUri errand = of_issued Once errand
demand CrlUri errand = of_issued Once errand
demand Crl errand = lists_demand errand
demand Previous errand = of_lists AtMostOnce errand
demand Number errand = of_lists AtMostOnce errand
demand Revoke errand = of_lists AnyNumber errand
demand NextUpdate errand = of_lists Once errand
demand At errand = AtMostOnce
demand Out errand = AtMostOnce

-- an option that stands so often meets what is demanded
abbrev pub Meets : Demand → ℕ → Type 0
Meets Never n = n ≡ 0
Meets AtMostOnce n = n ≤ 1
Meets Once n = n ≡ 1
Meets AnyNumber n = Unit {0}
Meets AtLeastOnce n = 1 ≤ n

-- whether an errand takes an option without a value
abbrev pub takes : Switch → Errand → Bool
takes Trim RevocationList = false
takes Trim Completion = false
takes Trim _ = true
takes Lenient _ = true
takes Pem Completion = true
takes Pem _ = false
takes Force _ = true

-- how many files it wants: what was prepared, and its signature
abbrev pub files_wanted : Errand → ℕ
files_wanted Completion = 2
files_wanted _ = 0

-- what is asked suits its errand
pub record SuitsErrand (asked : AskedFields) : Type 0 where
  pub settings :
      (setting : Setting)
      → Meets (demand setting asked.errand) (length (given_values setting asked.given))
  pub trim : asked.trims ≡ true → takes Trim asked.errand ≡ true
  pub pem : asked.is_pem ≡ true → takes Pem asked.errand ≡ true
  pub files : length asked.files ≡ files_wanted asked.errand

-- ---- the whole

-- the words ask this: those of an errand, then parts, and perhaps `--` and files
pub record IsRequestLine (asked : AskedFields) (words : List (List ℕ)) : Type 0 where
  pub errand : Errand
  pub rest : List (List ℕ)
  pub words_are : words ≡ errand_words errand ++ rest
  pub parts : List RequestPart
  pub parts_are : AreInOrder IsRequestPart parts (words_before rest)
  pub asks : asked ≡ fold with_request_part (only_errand errand) (parts ++ map file (words_behind rest))
  pub suits : SuitsErrand asked
