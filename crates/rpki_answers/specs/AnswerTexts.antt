-- What is answered of the files that a request names.
use Rattle.std.specs.Prelude.{◌≡◌, slice_get, unwrap_or, ℕ, List, []}
use Rattle.rpki_keys.specs.RsaSignatures.{IsSignedByRsa}
use Rattle.rpki_der.specs.Times.{Moment}
use Rattle.rpki_cert.specs.Verification.{context}
use Rattle.rpki_text.specs.CommandLines.{RequestFields}
use Rattle.rpki_files.specs.Files.{FileFields}
use Rattle.rpki_folder.specs.UsualBounds.{usual_steps}
use Rattle.rpki_verdicts.specs.GivenLocators.{LocatorFields}
use Rattle.rpki_verdicts.specs.PathFiles.{QuestionFields}
use Rattle.rpki_verdicts.specs.Trees.{TreeFields}
use Rattle.rpki_answers.specs.ShownFiles.{IsJsonOfFiles, IsTextOfFiles, is_single}
use Rattle.rpki_answers.specs.TreeDocuments.{IsTree}
use Rattle.rpki_answers.specs.TreeRows.{IsAcceptingFinding, IsTreeFinding}
use Rattle.rpki_answers.specs.UnreadNames.{unread_names}
use Rattle.rpki_answers.specs.Verdicts.{IsJsonOfPath, IsTextOfPath}
use Rattle.rpki_text.specs.declared.command_line.arguments.Task.{Task}
use Rattle.rpki_text.specs.declared.command_line.arguments.Task.TheVariants.{Show, Validate, Tree}
use Rattle.rpki_answers.specs.declared.outcomes.Outcome.{Outcome}
use Rattle.rpki_answers.specs.declared.outcomes.Outcome.TheVariants.{Success, Rejection, Unread}
use Rattle.rpki_answers.specs.declared.showing.Options.{Options}
use Rattle.rpki_answers.specs.declared.trees.TreeFinding.{TreeFinding}
use Rattle.rpki_answers.specs.declared.trees.TreeOptions.{TreeOptions}

-- how a request has files shown at a moment
abbrev pub options_of : RequestFields → Moment → Options
options_of r now = record { at = now; strict = r.strict; all = r.all_entries }

-- what a request asks of a path of files, and of files that are given as lists and as locators, at
-- a moment
abbrev pub question_of : RequestFields → Moment → List FileFields → List FileFields
    → List LocatorFields → QuestionFields
question_of r now members lists locators =
    record { members = members; lists = lists; locators = locators; names = r.names; strict = r.strict; at = now }

-- how many certificates a path has at most below the trust anchor, where no word says it
abbrev pub usual_depth : ℕ
usual_depth = 32

-- and what it asks of files in no order; its first folder, if there is one, is that below which names
-- are compared with URIs
abbrev pub tree_question_of : RequestFields → Moment → List FileFields → List LocatorFields → TreeFields
tree_question_of r now files locators = record {
  files = files;
  locators = locators;
  root = unwrap_or (slice_get r.folders 0) [];
  names = r.names;
  strict = r.strict;
  at = now;
  depth = unwrap_or r.depth usual_depth;
  steps = unwrap_or r.steps usual_steps;
}

-- how a request has trees printed
abbrev pub tree_options_of : RequestFields → TreeOptions
tree_options_of r =
    record { format = r.format; only_rejected = r.only_rejected; strict_exit = r.strict_exit }

-- what is printed of files in no order, beside which these can't be read, is this of what is found, and
-- the run ends so: as success only where all are accepted, and as rejection only where they aren't
abbrev pub IsTreeBy : TreeOptions → TreeFields → List (List ℕ) → Outcome → List ℕ → Type 0
IsTreeBy options q unread outcome text =
    (finding : TreeFinding) × IsTreeFinding (context IsSignedByRsa q.at q.strict) q finding
    × IsTree options.format options.only_rejected q finding unread text
    × (outcome ≡ Success → IsAcceptingFinding options.strict_exit finding)
    × (outcome ≡ Rejection → IsAcceptingFinding options.strict_exit finding → ⊥)

-- the text for a person of a run with this task that ends so, of which these files, lists and
-- locators could be read: `show` shows them, and `validate` judges nothing where another couldn't
-- be read
abbrev pub IsTextBy : Task → Outcome → RequestFields → Moment → List FileFields → List FileFields
    → List LocatorFields → List ℕ → Type 0
IsTextBy Show outcome r now files lists locators text = IsTextOfFiles (options_of r now) files text
IsTextBy Validate Unread r now files lists locators text = text ≡ []
IsTextBy Validate outcome r now files lists locators text =
    IsTextOfPath (context IsSignedByRsa now r.strict) (question_of r now files lists locators) text
IsTextBy Tree outcome r now files lists locators text =
    IsTreeBy (tree_options_of r) (tree_question_of r now files locators) (unread_names r.files files)
    outcome text
IsTextBy _ outcome r now files lists locators text = ⊥

-- its JSON, in the format that is asked
abbrev pub IsJsonBy : Task → Outcome → RequestFields → Moment → List FileFields → List FileFields
    → List LocatorFields → List ℕ → Type 0
IsJsonBy Show outcome r now files lists locators text =
    IsJsonOfFiles r.format (is_single r.files) (options_of r now) files text
IsJsonBy Validate Unread r now files lists locators text = text ≡ []
IsJsonBy Validate outcome r now files lists locators text =
    IsJsonOfPath r.format (context IsSignedByRsa now r.strict) (question_of r now files lists locators) text
IsJsonBy Tree outcome r now files lists locators text =
    IsTreeBy (tree_options_of r) (tree_question_of r now files locators) (unread_names r.files files)
    outcome text
IsJsonBy _ outcome r now files lists locators text = ⊥
