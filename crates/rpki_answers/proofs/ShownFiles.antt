-- What is said of files that are shown.
use Rattle.std.specs.Prelude.{All, IsFalse, IsTrue, slice_get, Option, Some, None}
use Rattle.std.proofs.Common.{◌≡◌, ◌↔◌, ◌&&◌, ◌∷◌, ℕ, Bool, true, false, List, inl, inr, ⊎_elim, refl, sym, subst, ◌∙◌}
use Rattle.std.proofs.lemmas.Bool.{and_from, and_parts, false≢true}
use Rattle.std.proofs.lemmas.List.Elements.{All-cons, All-head, All-tail}
use Rattle.rpki_files.specs.FileSorts.{IsToldSort}
use Rattle.rpki_files.specs.Files.{FileFields}
use Rattle.rpki_files.specs.ToBeSigned.{CanBeShown}
use Rattle.rpki_files.specs.declared.sorts.Sort.{Sort}
use Rattle.std.specs.List.{AllByRecursion}
use Rattle.serde_json.specs.Data.{Data}
use Rattle.rpki_document.specs.Documents.{document_of}
use Rattle.rpki_document.proofs.WholeValues.{json_whole}
use Rattle.rpki_answers.specs.Outcomes.{IsOutcomeOfShow}
use Rattle.rpki_answers.specs.ShownFiles.{IsFileItem, IsSubject, can_be_shown}
use Rattle.rpki_answers.specs.VerdictTexts.{SaysOfEach}
use Rattle.rpki_answers.specs.declared.showing.Options.{Options}
use Rattle.rpki_answers.specs.declared.showing.subjects.Subject.{Subject}
use Rattle.rpki_answers.specs.declared.showing.subjects.Subject.TheVariants as subject
use Rattle.rpki_answers.proofs.WholeValues.{IsWhole}
use Rattle.rpki_answers.proofs.WholeItems.{AllWhole, each_whole, items_whole}
use Rattle.rpki_answers.specs.RejectionDetails.{IsSortAt}
use Rattle.rpki_answers.specs.declared.outcomes.Outcome.{Outcome}
use Rattle.rpki_answers.specs.declared.outcomes.Outcome.TheVariants.{Success, Rejection}

-- of an item before others
pub flag_of_first : {X : Type 0} (P : X → Type 0) (x : X) (xs : List X) (has others : Bool) → (IsTrue has ↔ P x) →
    (IsTrue others ↔ All P xs) → IsTrue (others && has) ↔ All P (x ∷ xs)
flag_of_first P x xs has others here behind = (
  (λ both. let parts = and_parts others has both in All-cons P x xs (here.0 parts.1) (behind.0 parts.0)),
  (λ all. and_from others has (behind.1 (All-tail P x xs all)) (here.1 (All-head P x xs all))),
)

-- the outcome, by the flag that says whether each can be shown
pub outcome_shown : (strict : Bool) (files : List (List ℕ)) (outcome : Outcome) (yes : Bool) →
    (IsTrue yes → outcome ≡ Success) → (IsFalse yes → outcome ≡ Rejection) →
    (IsTrue yes ↔ All (CanBeShown strict) files) → IsOutcomeOfShow strict files outcome
outcome_shown strict files outcome true success rejection says = rw (success refl) (says.0 refl)
outcome_shown strict files outcome false success rejection says = rw (rejection refl) (λ all. false≢true (says.1 all))

-- the sort of the file that stands at a place
pub sort_there : (files : List FileFields) (place : ℕ) (file : FileFields) (found : Option Sort) →
    slice_get files place ≡ Some file → IsToldSort file.octets found → IsSortAt files place found
sort_there files place file (Some s) here told = (file, here, told)
sort_there files place file None here told = λ other there.
    let is : Some file ≡ Some other = sym here ∙ there in
    let same : file ≡ other = cc in
    subst (λ (f : FileFields). IsToldSort f.octets None) same told

-- what is shown is what can be
pub subject_shown : (strict : Bool) (octets : List ℕ) (s : Subject) → IsSubject strict octets s →
    IsTrue (can_be_shown s) ↔ CanBeShown strict octets
subject_shown strict octets (subject.Certificate cert left) is =
    ((λ yes. inl (inl (inl (cert.now, (is.0, is.1))))), (λ shown. refl))
subject_shown strict octets (subject.List list left) is =
    ((λ yes. inl (inl (inr (list.now.list, (is.0, is.1))))), (λ shown. refl))
subject_shown strict octets (subject.ToBeSigned whole) is = ((λ yes. inl (inr (whole.octets, is.1))), (λ shown. refl))
subject_shown strict octets (subject.Locator tal) is = ((λ yes. inr (tal.tal, is.1)), (λ shown. refl))
subject_shown strict octets (subject.NotALocator error) is =
    ((λ no. absurd (false≢true no)), (λ shown. absurd (⊎_elim is.0.0 is.1.2 shown)))
subject_shown strict octets (subject.Unread rejection) is =
    ((λ no. absurd (false≢true no)), (λ shown. absurd (⊎_elim is.0.0 is.0.1 shown)))

-- the values of files have no floats
item_whole : (options : Options) (file : FileFields) (items : List Data) → IsFileItem options file items → AllWhole items
unfolding AllWhole
item_whole options file items is =
    let whole : IsWhole is.0 = subst IsWhole (sym is.1.2) (json_whole (document_of is.1.0)) in
    subst (λ (l : List Data). AllByRecursion IsWhole l) (sym is.2) (whole, tt)

pub files_whole : (options : Options) (files : List FileFields) (values : List Data) →
    SaysOfEach (IsFileItem options) files values → AllByRecursion IsWhole values
files_whole options files values are = items_whole values (each_whole (IsFileItem options) (item_whole options) files values are)
