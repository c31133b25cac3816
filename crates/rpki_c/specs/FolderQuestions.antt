-- What a caller asks of a folder, by octets, lengths and numbers (own).
use Rattle.std.specs.Prelude.{◌≡◌, ◌≢◌, ◌↔◌, ◌==◌, ℕ, IsTrue, if◌then◌else◌}
use Rattle.rpki_der.specs.Times.{IsMoment}
use Rattle.rpki_c.specs.Questions.{choice_number}
use Rattle.rpki_c.specs.TimeParts.{moment_of_parts}
use Rattle.rpki_c.specs.declared.folder_question.RpkiFolderQuestion.{RpkiFolderQuestion}
use Rattle.rpki_c.specs.declared.folder_question.FolderTerms.{FolderTerms}

-- how many octets a question about a folder has in the caller's memory
abbrev pub folder_question_size : ℕ
folder_question_size = 96

-- what is asked for, or what is usual, where 0 is
abbrev pub asked_or : ℕ → ℕ → ℕ
asked_or asked usual = if asked == 0 then usual else asked

-- how many certificates a path has at most below the trust anchor, where no depth is asked for
abbrev pub usual_depth : ℕ
usual_depth = 32

-- the folder of the question is judged so
pub record HasFolderTerms (q : RpkiFolderQuestion) (t : FolderTerms) : Type 0 where
  pub size_is : q.size ≡ folder_question_size
  pub strict_is : IsTrue t.strict ↔ (q.strict ≢ 0)
  pub at_is : t.at ≡ moment_of_parts q.moment
  pub at_exists : IsMoment t.at
  pub depth_is : t.depth ≡ asked_or q.depth usual_depth
  pub steps_is : t.steps ≡ q.steps
  pub key_is : q.key ≡ choice_number t.asks_key
  pub names_is : q.names ≡ choice_number t.asks_names

-- there is no such moment or choice, or it is a question of another size
abbrev pub HasNoFolderTerms : RpkiFolderQuestion → Type 0
HasNoFolderTerms q = (t : FolderTerms) → HasFolderTerms q t → ⊥
