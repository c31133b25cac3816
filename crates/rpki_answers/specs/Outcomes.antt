-- How a run of the command ends, and its exit status (own). What a file holds are octets, in DER.
use Rattle.std.specs.Prelude.{◌≡◌, ◌⊎◌, ℕ, Bool, List, [], All, Result, Ok, Err}
use Rattle.rpki_keys.specs.RsaSignatures.{IsSignedByRsa}
use Rattle.rpki_der.specs.Times.{Moment}
use Rattle.rpki_path.specs.declared.judging.Judged.{Judged}
use Rattle.rpki_cert.specs.Verification.{Context, context}
use Rattle.rpki_text.specs.declared.command_line.arguments.Task.{Task}
use Rattle.rpki_text.specs.declared.command_line.arguments.Task.TheVariants.{Show, Validate, Tree}
use Rattle.rpki_answers.specs.declared.outcomes.Outcome.{Outcome}
use Rattle.rpki_answers.specs.declared.outcomes.Outcome.TheVariants.{Success, Rejection, WrongUse, Unread}
use Rattle.rpki_verdicts.specs.declared.path.Verdict.TheVariants.{Accepted, Rejected}
use Rattle.rpki_verdicts.specs.declared.path.Fault.{Fault}
use Rattle.rpki_text.specs.CommandLines.{RequestFields}
use Rattle.rpki_files.specs.Contents.{IsList}
use Rattle.rpki_files.specs.Files.{FileFields, file_names, contents}
use Rattle.rpki_files.specs.LocatorFiles.{AreLocator}
use Rattle.rpki_files.specs.ToBeSigned.{CanBeShown}
use Rattle.rpki_verdicts.specs.PathAnswers.{IsVerdictBy}
use Rattle.rpki_verdicts.specs.PathFiles.{Demands}

-- ---- the exit status

-- of a run that ends with this outcome, or fails, since the clock, memory or an output did
abbrev pub run_status : {E : Type 0} → Result Outcome E → ℕ
run_status (Ok Success) = 0
run_status (Ok Rejection) = 1
run_status (Ok WrongUse) = 2
run_status (Ok Unread) = 3
run_status (Err failure) = 3

-- ---- the outcome

-- of files that are to be shown: success if each begins with a certificate or a list, or is the
-- to-be-signed part of one, or a locator, else rejection
abbrev pub IsOutcomeOfShow : Bool → List (List ℕ) → Outcome → Type 0
IsOutcomeOfShow strict files Success = All (CanBeShown strict) files
IsOutcomeOfShow strict files Rejection = All (CanBeShown strict) files → ⊥
IsOutcomeOfShow strict files _ = ⊥

-- each file given as a locator is one, and each given as a list is one
abbrev pub AreAsGiven : Context → Demands → List (List ℕ) → Type 0
AreAsGiven x d lists = All (AreLocator x.strict) d.locators × All IsList lists

-- of a path that is to be validated: success where it is accepted, so that its trust anchor is that
-- of one of the locators, by the files given as lists no member is revoked, and names chain where
-- that is asked, and the files are what they are given as; rejection where it is rejected or has no
-- file, or one of these isn't what it is given as
abbrev pub IsOutcomeOfValidate : Context → Demands → List (List ℕ) → List (List ℕ) → Outcome → Type 0
IsOutcomeOfValidate x d files lists Success =
    ((j : Judged) × IsVerdictBy x d files lists (Accepted j)) × AreAsGiven x d lists
IsOutcomeOfValidate x d files lists Rejection =
    (files ≡ []) ⊎ (((fault : Fault) × IsVerdictBy x d files lists (Rejected fault)) ⊎ (AreAsGiven x d lists → ⊥))
IsOutcomeOfValidate x d files lists _ = ⊥

-- of a tree one of two; which of them, its answer says
abbrev pub IsOutcomeOfTree : Outcome → Type 0
IsOutcomeOfTree Success = Unit {0}
IsOutcomeOfTree Rejection = Unit {0}
IsOutcomeOfTree _ = ⊥

-- something is asked of files
abbrev pub AsksOfFiles : Task → Type 0
AsksOfFiles task = (task ≡ Show) ⊎ ((task ≡ Validate) ⊎ (task ≡ Tree))

-- of what is asked; always success where that is a text about the command, and nothing of files
abbrev pub IsOutcomeOf : Task → Context → Demands → List (List ℕ) → List (List ℕ) → Outcome → Type 0
IsOutcomeOf Show x d files lists outcome = IsOutcomeOfShow x.strict files outcome
IsOutcomeOf Validate x d files lists outcome = IsOutcomeOfValidate x d files lists outcome
IsOutcomeOf Tree x d files lists outcome = IsOutcomeOfTree outcome
IsOutcomeOf _ x d files lists outcome = outcome ≡ Success

-- ---- what is asked of files

-- of a request, all files, lists and locators could be read
abbrev pub AreAllRead : RequestFields → List FileFields → List FileFields → List FileFields → Type 0
AreAllRead r files lists locators =
    (file_names files ≡ r.files) × (file_names lists ≡ r.lists) × (file_names locators ≡ r.locators)

-- what a request asks of a path beside its validity, where these files are given as locators
abbrev pub demands_by : RequestFields → List FileFields → Demands
demands_by r locators = record { locators = contents locators; names = r.names }

-- a run that is asked this, of which these files, lists and locators could be read, ends so: as
-- unread exactly where another couldn't, else by what they hold
abbrev pub EndsBy : RequestFields → Moment → List FileFields → List FileFields → List FileFields → Outcome → Type 0
EndsBy r now files lists locators Unread = AreAllRead r files lists locators → ⊥
EndsBy r now files lists locators outcome =
    AreAllRead r files lists locators
    × IsOutcomeOf r.task (context IsSignedByRsa now r.strict) (demands_by r locators)
    (contents files) (contents lists) outcome
