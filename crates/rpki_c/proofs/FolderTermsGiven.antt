-- Questions about a folder that have no terms.
use Rattle.std.proofs.Common.{◌≢◌, ◌<◌, arith, subst}
use Rattle.rpki_der.specs.Times.{IsMoment}
use Rattle.rpki_c.specs.FolderQuestions.{folder_question_size, HasNoFolderTerms}
use Rattle.rpki_c.specs.TimeParts.{moment_of_parts}
use Rattle.rpki_c.specs.declared.folder_question.RpkiFolderQuestion.{RpkiFolderQuestion}
use Rattle.rpki_c.proofs.QuestionTerms.{choice_small}

pub no_folder_size : (q : RpkiFolderQuestion) → q.size ≢ folder_question_size → HasNoFolderTerms q
no_folder_size q h t terms = h terms.size_is

pub no_folder_moment : (q : RpkiFolderQuestion) → (IsMoment (moment_of_parts q.moment) → ⊥) → HasNoFolderTerms q
no_folder_moment q h t terms = h (subst IsMoment terms.at_is terms.at_exists)

pub no_folder_key : (q : RpkiFolderQuestion) → 1 < q.key → HasNoFolderTerms q
no_folder_key q h t terms = omega (arith, h, terms.key_is, choice_small t.asks_key)

pub no_folder_names : (q : RpkiFolderQuestion) → 1 < q.names → HasNoFolderTerms q
no_folder_names q h t terms = omega (arith, h, terms.names_is, choice_small t.asks_names)
