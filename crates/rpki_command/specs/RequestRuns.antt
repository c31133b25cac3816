-- How a run ends that prepares or completes a certificate or a list, and what it puts out, by what
-- reading files gives and by what a clock tells (own).
use Rattle.std.specs.List.{AllZip, Contains}
use Rattle.std.specs.Prelude.{◌≡◌, ◌≢◌, ◌⊎◌, ℕ, List, [], ◌∷◌, ◌++◌, Option, Some, Bool, true, IsFalse, bytes_eq, codes}
use Rattle.rpki_der.specs.Times.{Moment}
use Rattle.rpki_text.specs.CommandLines.{usual_size}
use Rattle.rpki_files.specs.PemFiles.{IsObjectOf}
use Rattle.rpki_requests.specs.Fulfilment.{Fulfils, context_of}
use Rattle.rpki_requests.specs.OptionValues.{IsMomentSaid, SaysAtMostOnce}
use Rattle.rpki_requests.specs.Refusals.{TellsPath}
use Rattle.rpki_requests.specs.RequestFiles.{InputFields}
use Rattle.rpki_requests.specs.RequestWords.{AskedFields, AsksHelp, OptionFields, IsRequestLine, given_values}
use Rattle.rpki_requests.specs.RefusedErrands.{IsSoOf}
use Rattle.rpki_requests.specs.declared.fulfilling.Made.{Made}
use Rattle.rpki_requests.specs.declared.fulfilling.Made.TheVariants.{ToSign, Certificate, RevocationList}
use Rattle.rpki_requests.specs.declared.refusals.Refusal.{Refusal}
use Rattle.rpki_requests.specs.declared.refusals.Refusal.TheVariants.{Value}
use Rattle.rpki_requests.specs.declared.words.Setting.{Setting}
use Rattle.rpki_requests.specs.declared.words.Setting.TheVariants.{At, Crl, Issuer, Key, Out, Previous, Revoke}
use Rattle.rpki_command.specs.AboutTexts.{help_text, topic_of}
use Rattle.rpki_command.specs.Messages.{SaysRequestMisuse, refusal_message, refusal_outcome}
use Rattle.rpki_command.specs.Moments.{IsMomentBy}
use Rattle.rpki_command.specs.Outputs.{IsApart, Output, only_said, only_text, placed_output}
use Rattle.rpki_command.specs.PemTexts.{IsPemText}
use Rattle.rpki_command.specs.ReadFiles.{ReadsFile}
use Rattle.rpki_command.specs.UnreadFiles.{IsLineAbout, IsWhyUnmade, IsWhyUnread, input_name, unmade_text, unread_text}
use Rattle.rpki_command.specs.declared.files.Unread.TheVariants.{Memory}
use Rattle.rpki_command.specs.declared.inputs.Unreadable.{Unreadable}
use Rattle.rpki_command.specs.declared.requests.Unplaced.{Unplaced}
use Rattle.rpki_answers.specs.declared.outcomes.Outcome.{Outcome}
use Rattle.rpki_answers.specs.declared.outcomes.Outcome.TheVariants.{Success, WrongUse, Unread}
pub mod Views

-- ---- the files

-- reading the file of this name gives an object with these octets
abbrev pub IsObjectNamed : ReadsFile → List ℕ → List ℕ → Type 0
IsObjectNamed reads name octets =
    (file : List ℕ) × reads name usual_size (Some file) × IsObjectOf file octets

-- the objects of all files that are named, in their order
abbrev pub AreObjectsNamed : ReadsFile → List (List ℕ) → List (List ℕ) → Type 0
AreObjectsNamed reads names objects = AllZip (IsObjectNamed reads) names objects

-- those of all files of a request
pub record AreInputs (reads : ReadsFile) (asked : AskedFields) (inputs : InputFields) : Type 0 where
  pub issuers_are : AreObjectsNamed reads (given_values Issuer asked.given) inputs.issuers
  pub lists_are : AreObjectsNamed reads (given_values Crl asked.given) inputs.lists
  pub keys_are : AreObjectsNamed reads (given_values Key asked.given) inputs.keys
  pub previous_are : AreObjectsNamed reads (given_values Previous asked.given) inputs.previous
  pub revoked_are : AreObjectsNamed reads (given_values Revoke asked.given) inputs.revoked
  pub files_are : AreObjectsNamed reads asked.files inputs.files

-- the names of all files of a request
abbrev pub names_read : AskedFields → List (List ℕ)
names_read asked =
    asked.files ++ given_values Issuer asked.given ++ given_values Crl asked.given ++ given_values Key asked.given
    ++ given_values Previous asked.given ++ given_values Revoke asked.given

-- this is one of the files of these names, and can't be read for its reason
abbrev pub IsUnreadOf : ReadsFile → List (List ℕ) → Unreadable → Type 0
IsUnreadOf reads names file =
    Contains names file.name.now × IsWhyUnread reads usual_size file.name.now file.why

-- one that an option names
abbrev pub IsUnreadOption : ReadsFile → AskedFields → Unreadable → Setting → Type 0
IsUnreadOption reads asked file setting = IsUnreadOf reads (given_values setting asked.given) file

-- one of a request
abbrev pub IsUnreadInput : ReadsFile → AskedFields → Unreadable → Type 0
IsUnreadInput reads asked file =
    IsUnreadOption reads asked file Issuer ⊎ (IsUnreadOption reads asked file Crl
    ⊎ (IsUnreadOption reads asked file Key ⊎ (IsUnreadOption reads asked file Previous
    ⊎ (IsUnreadOption reads asked file Revoke ⊎ IsUnreadOf reads asked.files file))))

-- this is said of it
abbrev pub IsLineOf : Unreadable → List ℕ → Type 0
IsLineOf file said = (file.why ≢ Memory) × IsLineAbout (input_name file.name.now) (unread_text file.why) said

-- ---- the moment

-- what `--at` says, if it is given
abbrev pub IsNamedMoment : List OptionFields → Option Moment → Type 0
IsNamedMoment given named = SaysAtMostOnce IsMomentSaid (given_values At given) named

-- the moment that it says, or else one that the clock tells
abbrev pub IsMomentAsked : (Moment → Type 0) → List OptionFields → Moment → Type 0
IsMomentAsked tells given now =
    (named : Option Moment) × IsNamedMoment given named × IsMomentBy tells named now

-- ---- how it ends

-- the octets that are given
abbrev pub made_octets : Made → List ℕ
made_octets (ToSign octets) = octets
made_octets (Certificate octets) = octets
made_octets (RevocationList octets) = octets

-- what is written of them: these octets, or a certificate or a list in PEM under its label (RFC
-- 7468 5, 6)
abbrev pub IsWritten : Bool → Made → List ℕ → Type 0
IsWritten true (Certificate octets) text = IsPemText (codes "CERTIFICATE") octets text
IsWritten true (RevocationList octets) text = IsPemText (codes "X509 CRL") octets text
IsWritten _ given text = text ≡ made_octets given

-- what the request gives, with these files at this moment, as it is written
abbrev pub GivesText : AskedFields → InputFields → Moment → List ℕ → Type 0
GivesText asked inputs now text =
    (given : Made) × Fulfils asked inputs now given × IsWritten asked.is_pem given text

-- it gives nothing, and what this says of the issuer's path and of what is asked is so
pub record GivesNothing (asked : AskedFields) (inputs : InputFields) (now : Moment) (why : Refusal) : Type 0 where
  pub nothing : (given : Made) → Fulfils asked inputs now given → ⊥
  pub path_is : TellsPath (context_of asked now) inputs.issuers inputs.lists why
  pub so : IsSoOf asked inputs now why

-- this is the file of the first of these names, and can't be made for its reason, where those of
-- others were read
abbrev pub IsUnmadeOf : List (List ℕ) → List (List ℕ) → Unplaced → Type 0
IsUnmadeOf [] read file = ⊥
IsUnmadeOf (name ∷ more) read file =
    IsFalse (bytes_eq name (codes "-")) × (file.name.now ≡ name) × IsWhyUnmade read name file.why

-- putting a text where names say ends so, where the files of others were read: it stands there, in
-- none of those; or, as unread, nowhere, where its file can't be made, which is said
abbrev pub PlaceEnds : List (List ℕ) → Bool → List (List ℕ) → List ℕ → Outcome → Output → Type 0
PlaceEnds names overwrites read text Success output =
    IsApart names read × (output ≡ placed_output names overwrites read text)
PlaceEnds names overwrites read text Unread output =
    (file : Unplaced) × (said : List ℕ) × IsUnmadeOf names read file
    × IsLineAbout (input_name file.name.now) (unmade_text file.why) said × (output ≡ only_said said)
PlaceEnds names overwrites read text _ output = ⊥

-- with these files at this moment the request ends so: as putting out what it gives does, on
-- standard output or into the file that `--out` names; or as why it gives nothing, which is said
abbrev pub InputsEnd : AskedFields → InputFields → Moment → Outcome → Output → Type 0
InputsEnd asked inputs now outcome output =
    ((text : List ℕ) × GivesText asked inputs now text
    × PlaceEnds (given_values Out asked.given) asked.overwrites (names_read asked) text outcome output)
    ⊎ ((why : Refusal) × GivesNothing asked inputs now why × (outcome ≡ refusal_outcome why)
    × (output ≡ only_said (refusal_message asked why)))

-- at a moment that may be asked, with the files as they are read, it ends so
pub record ReadEnds (reads : ReadsFile) (tells : Moment → Type 0) (asked : AskedFields) (outcome : Outcome) (output : Output) : Type 0 where
  pub now : Moment
  pub now_is : IsMomentAsked tells asked.given now
  pub inputs : InputFields
  pub inputs_are : AreInputs reads asked inputs
  pub ends : InputsEnd asked inputs now outcome output

-- `--at` has another value than a moment, which ends the run with wrong use and is said
abbrev pub EndsWithoutMoment : AskedFields → Outcome → Output → Type 0
EndsWithoutMoment asked outcome output =
    ((named : Option Moment) → IsNamedMoment asked.given named → ⊥) × (outcome ≡ WrongUse)
    × (output ≡ only_said (refusal_message asked (Value At)))

-- a file can't be read, which ends the run as unread and is said of one
abbrev pub EndsUnread : ReadsFile → AskedFields → Outcome → Output → Type 0
EndsUnread reads asked outcome output =
    (file : Unreadable) × (said : List ℕ) × IsUnreadInput reads asked file × IsLineOf file said
    × (outcome ≡ Unread) × (output ≡ only_said said)

-- a run that asks this ends so, and puts this out: where `--at` names no moment, or a file can't be
-- read, with that; and else as its files do
abbrev pub AskedEnds : ReadsFile → (Moment → Type 0) → AskedFields → Outcome → Output → Type 0
AskedEnds reads tells asked outcome output =
    EndsWithoutMoment asked outcome output
    ⊎ (EndsUnread reads asked outcome output ⊎ ReadEnds reads tells asked outcome output)

-- ---- words

-- the words ask for nothing to be prepared or completed, which ends the run with wrong use; and this
-- says what is wrong
abbrev pub EndsAsMisuse : List (List ℕ) → Outcome → Output → Type 0
EndsAsMisuse words outcome output =
    ((asked : AskedFields) → IsRequestLine asked words → ⊥) × (outcome ≡ WrongUse)
    × ((said : List ℕ) × SaysRequestMisuse words said × (output ≡ only_said said))

-- a run on these words, which don't ask how the command is used, ends so: where they ask for nothing
-- to be prepared or completed, with that; and else as what they ask does
abbrev pub WordsEnd : ReadsFile → (Moment → Type 0) → List (List ℕ) → Outcome → Output → Type 0
WordsEnd reads tells words outcome output =
    EndsAsMisuse words outcome output
    ⊎ ((asked : AskedFields) × IsRequestLine asked words × AskedEnds reads tells asked outcome output)

-- a run on these words ends so, and puts this out: how the command is used, where they ask that
abbrev pub RequestEnds : ReadsFile → (Moment → Type 0) → List (List ℕ) → Outcome → Output → Type 0
RequestEnds reads tells words outcome output =
    (AsksHelp words × (outcome ≡ Success) × (output ≡ only_text (help_text (topic_of words))))
    ⊎ ((AsksHelp words → ⊥) × WordsEnd reads tells words outcome output)
