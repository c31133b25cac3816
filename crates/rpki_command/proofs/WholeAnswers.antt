-- The answer to what could be read of what a request names.
use Rattle.std.specs.Prelude.{◌≡◌, ◌≢◌, ℕ, List, map}
use Rattle.std.proofs.lemmas.List.{map-id}
use Rattle.rpki_der.specs.Times.{Moment}
use Rattle.rpki_files.specs.Files.{FileFields}
use Rattle.rpki_verdicts.specs.GivenLocators.{LocatorFields, locator_files}
use Rattle.rpki_text.specs.CommandLines.{RequestFields}
use Rattle.rpki_text.specs.declared.command_line.arguments.Format.TheVariants.{Text}
use Rattle.rpki_answers.specs.AnswerTexts.{IsTextBy, IsJsonBy}
use Rattle.rpki_answers.specs.Outcomes.{EndsBy}
use Rattle.rpki_answers.specs.declared.outcomes.Outcome.{Outcome}
use Rattle.rpki_command.specs.NamedFiles.{AreNamedAndRead, AreRead}
use Rattle.rpki_command.specs.ReadFiles.{ReadsFile}
use Rattle.rpki_command.specs.Runs.{IsWholeAnswer}
use Rattle.rpki_command.proofs.NamedFiles.{are_given}

-- what is kept of what was read is what is given
module _ (reads : ReadsFile) (r : RequestFields) (kept_files kept_lists : List FileFields) (kept_locators : List LocatorFields)
    (files lists : List FileFields) (locators : List LocatorFields) (said : List ℕ)
    (files_are : files ≡ kept_files) (lists_are : lists ≡ kept_lists) (locators_are : locators ≡ kept_locators)
    (read : AreRead reads r (map (λ (f : FileFields). f) kept_files) (map (λ (f : FileFields). f) kept_lists) kept_locators said) where
  given_read : AreRead reads r files lists locators said
  given_read = rw (files_are, lists_are, locators_are) (rw (map-id kept_files, map-id kept_lists) at read)

  pub read_given : AreNamedAndRead r files lists locators
  read_given = are_given reads r files lists locators said given_read

  pub whole_answer : (now : Moment) (outcome : Outcome) (text : List ℕ) → EndsBy r now files lists (locator_files locators) outcome
      → (r.format ≡ Text → IsTextBy r.task outcome r now files lists locators text)
      → (r.format ≢ Text → IsJsonBy r.task outcome r now files lists locators text)
      → IsWholeAnswer reads r now outcome text said
  whole_answer now outcome text ends text_is json_is = record {
    files = files;
    lists = lists;
    locators = locators;
    are_read = given_read;
    ends = ends;
    text_is = text_is;
    json_is = json_is;
  }
