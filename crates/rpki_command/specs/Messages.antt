-- What a run says on standard error of words, of requests, of folders and of a search (own).
use Rattle.std.specs.Fmt.{decimal}
use Rattle.std.specs.Prelude.{◌≡◌, ℕ, List, [], ◌++◌, ◌==◌, codes, if◌then◌else◌}
use Rattle.rpki_folder.specs.declared.bounds.Ended.{Ended}
use Rattle.rpki_folder.specs.declared.bounds.Ended.TheVariants.{Whole, TooDeep, OutOfSteps}
use Rattle.rpki_text.specs.Misuses.{IsMisuse}
use Rattle.rpki_text.specs.MisuseTexts as line
use Rattle.rpki_text.specs.Counts.{count_text}
use Rattle.rpki_text.specs.declared.command_line.arguments.Misuse as arguments
use Rattle.rpki_answers.specs.declared.outcomes.Outcome.{Outcome}
use Rattle.rpki_answers.specs.declared.outcomes.Outcome.TheVariants.{Rejection, WrongUse}
use Rattle.rpki_command.specs.AboutTexts.{topic_name, hint_text, topic_of}
use Rattle.rpki_command.specs.declared.about.Topic.{Topic}
use Rattle.rpki_command.specs.declared.about.Topic.TheVariants.{Prepare, Complete}
use Rattle.rpki_requests.specs.Refusals.{refusal_text, words_about}
use Rattle.rpki_requests.specs.RequestMisuses as request
use Rattle.rpki_requests.specs.RequestWords.{AskedFields}
use Rattle.rpki_requests.specs.declared.refusals.Refusal.{Refusal}
use Rattle.rpki_requests.specs.declared.refusals.Refusal.TheVariants.{Value}
use Rattle.rpki_requests.specs.declared.words.Errand.{Errand}
use Rattle.rpki_requests.specs.declared.words.Errand.TheVariants.{Completion}
use Rattle.rpki_requests.specs.declared.words.Misuse as requests
use Rattle.rpki_verdicts.specs.Trees.{TreeFields}

-- what is wrong, in a line, and in another one where the help is
abbrev pub misuse_message : Topic → List ℕ → List ℕ
misuse_message topic wrong =
    topic_name topic ++ (codes ": " ++ (wrong ++ (codes "\n" ++ hint_text topic)))

-- this says what is wrong with words that are no command line: which is so, and is the first word
-- that is wrong, or why what they ask doesn't suit its task
abbrev pub SaysLineMisuse : List (List ℕ) → List ℕ → Type 0
SaysLineMisuse words said =
    (misuse : arguments.Misuse) × IsMisuse misuse words
    × (said ≡ misuse_message (topic_of words) (line.misuse_text misuse))

-- and this one thing that is wrong with words that ask for nothing to be prepared or completed:
-- which is so, and is the first word that is wrong, or why what they ask doesn't suit it
abbrev pub SaysRequestMisuse : List (List ℕ) → List ℕ → Type 0
SaysRequestMisuse words said =
    (misuse : requests.Misuse) × request.IsRequestMisuse misuse words
    × (said ≡ misuse_message (topic_of words) (request.request_misuse_text misuse))

-- the command by which an errand is asked
abbrev pub topic_asked : Errand → Topic
topic_asked Completion = Complete
topic_asked _ = Prepare

-- where the help is that a refusal asks for: of a wrong value the command's
abbrev pub refusal_hint : Topic → Refusal → List ℕ
refusal_hint topic (Value setting) = hint_text topic
refusal_hint topic why = []

-- why a request gives nothing, where it is about these words, in a line, and that hint
abbrev pub told_refusal : Topic → List (List ℕ) → Refusal → List ℕ
told_refusal topic words why =
    topic_name topic ++ (codes ": " ++ (refusal_text words why ++ (codes "\n" ++ refusal_hint topic why)))

abbrev pub refusal_message : AskedFields → Refusal → List ℕ
refusal_message asked why = told_refusal (topic_asked asked.errand) (words_about asked why) why

-- how a run ends by it
abbrev pub refusal_outcome : Refusal → Outcome
refusal_outcome (Value setting) = WrongUse
refusal_outcome why = Rejection

-- how many files of folders were passed over, if some were, in a line
abbrev pub passed_message : ℕ → List ℕ
passed_message passed =
    if passed == 0 then []
    else codes "rpki: skipped in directories: "
    ++ (count_text passed (codes " file whose name ends") (codes " files whose names end") ++ codes " neither in .cer nor in .crl\n")

-- how many of how many files were read, over the line before; the line ends with the last file
abbrev pub progress_message : ℕ → ℕ → List ℕ
progress_message read of =
    let end = if read == of then codes " files read\n" else codes " files read" in
    codes "\rrpki: " ++ (decimal read ++ (codes " of " ++ (decimal of ++ end)))

-- if a search reached a limit: that not every path was searched, with the limit and the option that
-- sets it, in a line; else nothing
abbrev pub bound_message : TreeFields → Ended → List ℕ
bound_message q Whole = []
bound_message q TooDeep =
    codes "rpki: not every path was searched: at most "
    ++ (decimal q.depth ++ codes " certificates down, more are below (--depth sets the limit)\n")
bound_message q OutOfSteps =
    codes "rpki: not every path was searched: the limit of "
    ++ (decimal q.steps ++ codes " steps was reached (--steps sets the limit)\n")
