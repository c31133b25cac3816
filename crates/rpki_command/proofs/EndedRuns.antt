-- How runs end.
use Rattle.std.specs.Bool.{MatchBool}
use Rattle.std.specs.Io.KnownBytes.{Appends}
use Rattle.std.specs.Prelude.{Option, Some, None, Result, Ok, Err, IfOk, IsOkAnd}
use Rattle.std.specs.declared.vec.Vec.{Vec}
use Rattle.std.proofs.Common.{◌≡◌, ◌==◌, ◌++◌, ℕ, Bool, false, true, List, [], ◌∷◌, length, map, inl, inr, refl}
use Rattle.std.proofs.Common.{subst, sym, ap, ◌∙◌}
use Rattle.std.proofs.lemmas.Bool.{eq-eqb, false≢true}
use Rattle.std.proofs.lemmas.List.{length-map}
use Rattle.rpki_keys.specs.RsaSignatures.{IsSignedByRsa}
use Rattle.rpki_der.specs.Times.{Moment}
use Rattle.rpki_cert.specs.Verification.{Context, context}
use Rattle.rpki_files.specs.Files.{contents}
use Rattle.rpki_verdicts.specs.GivenLocators.{locator_files}
use Rattle.rpki_verdicts.specs.PathFiles.{Demands}
use Rattle.rpki_command.specs.AboutTexts.{about_text, topic_of}
use Rattle.rpki_text.specs.CommandLines.{RequestFields, IsCommandLine}
use Rattle.rpki_answers.specs.Outcomes.{AsksOfFiles, IsOutcomeOf, demands_by, run_status}
use Rattle.rpki_command.specs.ListedFolders.{ListsFolder, roots_of}
use Rattle.rpki_command.specs.ReadFiles.{ReadsFile}
use Rattle.rpki_command.specs.Moments.{IsMomentBy}
use Rattle.rpki_command.specs.SoughtPaths.{with_sought}
use Rattle.rpki_command.specs.Runs.{IsRunAnswer, IsAnswerAmong, IsAnswerBy, IsAnswerIn, IsAnswerOf, IsAnswerOfNamed}
use Rattle.rpki_command.specs.Runs.{LineEnds, TaskEnds, with_files_below}
use Rattle.rpki_text.specs.declared.command_line.arguments.Task.{Task}
use Rattle.rpki_text.specs.declared.command_line.arguments.Task.TheVariants.{Show, Validate, Tree, Help, Version}
use Rattle.rpki_command.proofs.WrittenTexts.{appends_both}
use Rattle.rpki_command.specs.declared.ended.Ended.{Ended}
use Rattle.rpki_answers.specs.declared.outcomes.Outcome.{Outcome}
use Rattle.rpki_command.specs.declared.searching.SoughtNames.{SoughtNames}
use Rattle.rpki_answers.specs.declared.outcomes.Outcome.TheVariants.{Success, Rejection, WrongUse, Unread}

-- what files hold never makes a run end as wrong use
no_misuse : (task : Task) (x : Context) (d : Demands) (files lists : List (List ℕ)) → IsOutcomeOf task x d files lists WrongUse → ⊥
no_misuse Show x d files lists h = h
no_misuse Validate x d files lists h = h
no_misuse Tree x d files lists h = h
no_misuse Help x d files lists h = cc
no_misuse Version x d files lists h = cc

-- neither does a path that is sought
module _ (reads : ReadsFile) (lists : ListsFolder) (r : RequestFields) (now : Moment) (text : List ℕ) where
  by_files : (q : RequestFields) (said : List ℕ) → IsRunAnswer reads q now WrongUse text said → ⊥
  by_files q said answer =
      let its = answer.whole in
      no_misuse q.task (context IsSignedByRsa now q.strict) (demands_by q (locator_files its.locators))
      (contents its.files) (contents its.lists) its.ends.1

  by_found : (q : RequestFields) (said : List ℕ) (found : Outcome) (are_all_read : Bool) →
      IsRunAnswer reads q now found text said → MatchBool are_all_read (WrongUse ≡ found) (WrongUse ≡ Unread) → ⊥
  by_found q said found true answer is = by_files q said (subst (λ (o : Outcome). IsRunAnswer reads q now o text said) (sym is) answer)
  by_found q said found false answer is = cc

  by_sought : (q : RequestFields) (said : List ℕ) (sought : Option SoughtNames) → IsAnswerBy reads q now sought WrongUse text said → ⊥
  by_sought q said None h = let wrong : WrongUse ≡ Unread = h.0 in cc
  by_sought q said (Some sought) h = by_found (with_sought q sought) said h.0 sought.are_all_read h.1 h.2

  never_misuse : (folders : List (List ℕ)) (said : List ℕ) → IsAnswerAmong folders reads lists r now WrongUse text said → ⊥
  never_misuse [] said h = by_files (record r { files = h.names; folders = roots_of r.files }) h.of_files h.answer
  never_misuse (folder ∷ folders) said h = by_sought (with_files_below r h.names) h.of_files h.sought h.answer

module _ (reads : ReadsFile) (lists : ListsFolder) (tells : Moment → Type 0) (words : List (List ℕ)) (r : RequestFields)
    (line : IsCommandLine r words) where
  -- a text about the command
  about_ends : (task : Task) → (AsksOfFiles task → ⊥) →
      TaskEnds task (topic_of words) reads lists tells r Success (about_text task (topic_of words)) []
  about_ends Show none = absurd (none (inl refl))
  about_ends Validate none = absurd (none (inr (inl refl)))
  about_ends Tree none = absurd (none (inr (inr refl)))
  about_ends Help none = (refl, refl, refl)
  about_ends Version none = (refl, refl, refl)

  pub run_about : (AsksOfFiles r.task → ⊥) → LineEnds reads lists tells words Success (about_text r.task (topic_of words)) []
  run_about none = (r, line, about_ends r.task none)

  -- the answer of files
  answer_ends : (task : Task) → AsksOfFiles task → (now : Moment) (outcome : Outcome) (text said : List ℕ) →
      IsMomentBy tells r.at now → IsAnswerOf reads lists r now outcome text said →
      TaskEnds task (topic_of words) reads lists tells r outcome text said
  answer_ends Show asks now outcome text said moment answer = (now, moment, answer)
  answer_ends Validate asks now outcome text said moment answer = (now, moment, answer)
  answer_ends Tree asks now outcome text said moment answer = (now, moment, answer)
  answer_ends Help (inl e) now outcome text said moment answer = cc
  answer_ends Help (inr (inl e)) now outcome text said moment answer = cc
  answer_ends Help (inr (inr e)) now outcome text said moment answer = cc
  answer_ends Version (inl e) now outcome text said moment answer = cc
  answer_ends Version (inr (inl e)) now outcome text said moment answer = cc
  answer_ends Version (inr (inr e)) now outcome text said moment answer = cc

  module _ (asks : AsksOfFiles r.task) (now : Moment) (moment : IsMomentBy tells r.at now) where
    -- is no wrong use
    answer_is_use : (text said : List ℕ) → IsAnswerOf reads lists r now WrongUse text said → ⊥
    answer_is_use text said answer = never_misuse reads lists r now text r.folders said answer

    pub run_answer : (outcome : Outcome) (text said : List ℕ) → IsAnswerOf reads lists r now outcome text said →
        LineEnds reads lists tells words outcome text said
    run_answer Success text said answer = (r, line, answer_ends r.task asks now Success text said moment answer)
    run_answer Rejection text said answer = (r, line, answer_ends r.task asks now Rejection text said moment answer)
    run_answer WrongUse text said answer = absurd (answer_is_use text said answer)
    run_answer Unread text said answer = (r, line, answer_ends r.task asks now Unread text said moment answer)

-- ---- an answer of files, or of a path that is sought

module _ (reads : ReadsFile) (lists : ListsFolder) (r : RequestFields) (now : Moment) (outcome : Outcome) (text said : List ℕ) where
  -- where there is no folder
  pub of_named : (folders : List (List ℕ)) → folders ≡ [] → IsAnswerOfNamed reads lists r now outcome text said →
      IsAnswerAmong folders reads lists r now outcome text said
  of_named [] e h = h
  of_named (folder ∷ folders) e h = absurd cc

  -- and where there are some
  pub of_sought : (folders : List (List ℕ)) → (folders ≡ [] → ⊥) → IsAnswerIn reads lists r now outcome text said →
      IsAnswerAmong folders reads lists r now outcome text said
  of_sought [] some h = absurd (some refl)
  of_sought (folder ∷ folders) some h = h

-- some names are there
pub some_names : {X Y Z : Type 0} (f : X → Y) (names : Vec X Z) (none : Bool) → none ≡ (names.len == 0) →
    names.len ≡ length names.items → none ≡ false → map f names.items ≡ [] → ⊥
some_names f names none is len some e =
    let empty : length names.items ≡ 0 = sym (length-map names.items f) ∙ ap length e in
    false≢true (sym some ∙ is ∙ eq-eqb names.len 0 (len ∙ empty))

-- what is written and said of an answer is written and said of it by another name
pub so_answered : {T E : Type 0} (A B : T → List ℕ → List ℕ → Type 0) (W : T → List ℕ → Type 0) (S : List ℕ → Type 0)
    (r : Result T E) → ((e : T) (text said : List ℕ) → A e text said → B e text said) →
    IfOk r (λ e. (text : List ℕ) × (said : List ℕ) × A e text said × W e text × S said) →
    IfOk r (λ e. (text : List ℕ) × (said : List ℕ) × B e text said × W e text × S said)
so_answered A B W S (Ok e) f h = (h.0, h.1, f e h.0 h.1 h.2, h.3, h.4)
so_answered A B W S (Err e) f h = tt

-- and with what was said before
pub so_said : {T E : Type 0} (A B : T → List ℕ → List ℕ → Type 0) (W : T → List ℕ → Type 0)
    (before between after : Option (List ℕ)) (first : List ℕ) (r : Result T E) → Appends before between first →
    ((e : T) (text said : List ℕ) → A e text said → B e text (first ++ said)) →
    IfOk r (λ e. (text : List ℕ) × (said : List ℕ) × A e text said × W e text × Appends between after said) →
    IfOk r (λ e. (text : List ℕ) × (said : List ℕ) × B e text said × W e text × Appends before after said)
so_said A B W before between after first (Ok e) p f h =
    (h.0, first ++ h.1, f e h.0 h.1 h.2, h.3, appends_both before between after first h.1 p h.4)
so_said A B W before between after first (Err e) p f h = tt

-- ---- what the status tells

as_success : {F : Type 0} (Ends : Outcome → Type 0) (settled : Result Outcome F) → IfOk settled Ends → run_status settled ≡ 0 → Ends Success
as_success Ends (Ok Success) ends told = ends
as_success Ends (Ok Rejection) ends told = cc
as_success Ends (Ok WrongUse) ends told = cc
as_success Ends (Ok Unread) ends told = cc
as_success Ends (Err why) ends told = cc

as_rejection : {F : Type 0} (Ends : Outcome → Type 0) (settled : Result Outcome F) → IfOk settled Ends →
    run_status settled ≡ 1 → Ends Rejection
as_rejection Ends (Ok Success) ends told = cc
as_rejection Ends (Ok Rejection) ends told = ends
as_rejection Ends (Ok WrongUse) ends told = cc
as_rejection Ends (Ok Unread) ends told = cc
as_rejection Ends (Err why) ends told = cc

as_misuse : {F : Type 0} (Ends : Outcome → Type 0) (settled : Result Outcome F) → IfOk settled Ends → run_status settled ≡ 2 → Ends WrongUse
as_misuse Ends (Ok Success) ends told = cc
as_misuse Ends (Ok Rejection) ends told = cc
as_misuse Ends (Ok WrongUse) ends told = ends
as_misuse Ends (Ok Unread) ends told = cc
as_misuse Ends (Err why) ends told = cc

as_unread : {F : Type 0} (Ends : Outcome → Type 0) (settled : Result Outcome F) → IfOk settled Ends →
    (outcome : Outcome) → settled ≡ Ok outcome → run_status settled ≡ 3 → Ends Unread
as_unread Ends (Ok Success) ends outcome is told = cc
as_unread Ends (Ok Rejection) ends outcome is told = cc
as_unread Ends (Ok WrongUse) ends outcome is told = cc
as_unread Ends (Ok Unread) ends outcome is told = ends
as_unread Ends (Err why) ends outcome is told = absurd cc

module _ {E F : Type 0} (Ends : Outcome → Type 0) where
  settled_ends : (ran : Result Ended E) (settled : Result Outcome F) → IfOk ran (λ e. Ends e.outcome) →
      IfOk settled (λ outcome. IsOkAnd ran (λ e. outcome ≡ e.outcome)) → IfOk settled Ends
  settled_ends (Ok e) (Ok outcome) ends same = subst (λ (o : Outcome). Ends o) (sym same) ends
  settled_ends (Err why) (Ok outcome) ends same = absurd same
  settled_ends ran (Err why) ends same = tt

  -- where it is 2
  pub told_misuse : (ran : Result Ended E) (settled : Result Outcome F) → IfOk ran (λ e. Ends e.outcome) →
      IfOk settled (λ outcome. IsOkAnd ran (λ e. outcome ≡ e.outcome)) → run_status settled ≡ 2 → Ends WrongUse
  told_misuse ran settled ends same told = as_misuse Ends settled (settled_ends ran settled ends same) told

  -- where it is 0
  pub told_success : (ran : Result Ended E) (settled : Result Outcome F) → IfOk ran (λ e. Ends e.outcome) →
      IfOk settled (λ outcome. IsOkAnd ran (λ e. outcome ≡ e.outcome)) → run_status settled ≡ 0 → Ends Success
  told_success ran settled ends same told = as_success Ends settled (settled_ends ran settled ends same) told

  -- where it is 1
  pub told_rejection : (ran : Result Ended E) (settled : Result Outcome F) → IfOk ran (λ e. Ends e.outcome) →
      IfOk settled (λ outcome. IsOkAnd ran (λ e. outcome ≡ e.outcome)) → run_status settled ≡ 1 → Ends Rejection
  told_rejection ran settled ends same told = as_rejection Ends settled (settled_ends ran settled ends same) told

  -- where it is 3, and the run hasn't failed
  pub told_unread : (ran : Result Ended E) (settled : Result Outcome F) → IfOk ran (λ e. Ends e.outcome) →
      IfOk settled (λ outcome. IsOkAnd ran (λ e. outcome ≡ e.outcome)) → (outcome : Outcome) →
      settled ≡ Ok outcome → run_status settled ≡ 3 → Ends Unread
  told_unread ran settled ends same outcome is told = as_unread Ends settled (settled_ends ran settled ends same) outcome is told
