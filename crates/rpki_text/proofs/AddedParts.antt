-- Files and values that are added to a request.
use Rattle.std.specs.Prelude.{Result, Ok, Err, OnOk}
use Rattle.std.specs.declared.vec.Vec.{Vec}
use Rattle.std.proofs.Common.{◌≡◌, ℕ, ◌+◌, ◌<◌, List, [], ◌∷◌, ◌++◌, length, get_or, take, refl, sym, ap, ◌∙◌}
use Rattle.std.proofs.lemmas.List.{append_assoc}
use Rattle.rpki_text.specs.declared.command_line.arguments.Setting.{Setting}
use Rattle.rpki_text.specs.CommandLines.{IsPart, LinePart, file, RequestFields, with_files, with_part}
use Rattle.rpki_text.specs.CommandLines.Steps.{AddsSet, IsSetPart}
use Rattle.rpki_text.specs.CommandLines.Views.{word_octets}
use Rattle.rpki_text.specs.WordParts.{AddsPart, IsOption}
use Rattle.rpki_text.proofs.WordByWord.{words_more}

-- ---- a name

-- a file is added
pub file_added : {T E : Type 0} (r : Result T E) (old : RequestFields) (names : List (List ℕ)) (name : List ℕ) →
    OnOk r (names ≡ old.files ++ name ∷ []) → (IsOption name → ⊥) →
    OnOk r (AddsPart IsPart with_part (name ∷ []) old (record old { files = names }))
file_added (Ok x) old names name e not_option = (file name, (refl, not_option), ap (λ (l : List (List ℕ)). record old { files = l }) e)
file_added (Err x) old names name e not_option = e

-- a file that is an option's value is added to those of the request
pub value_pushed : {T E : Type 0} (r : Result T E) (old : RequestFields) (setting : Setting) (value : List ℕ)
    (part : LinePart) → IsSetPart setting value part →
    (keeping : List (List ℕ) → RequestFields) (pushed all : List (List ℕ)) → keeping all ≡ with_part old part →
    OnOk r (pushed ≡ all) → OnOk r (AddsSet setting value old (keeping pushed))
value_pushed (Ok x) old setting value part is keeping pushed all same e = (part, is, ap keeping e ∙ same)
value_pushed (Err x) old setting value part is keeping pushed all same e = e

-- ---- words behind `--`

module _ {Z : Type 0} (words : List (Vec ℕ Z)) (i : ℕ) (word : Vec ℕ Z) (low : i < length words) (there : word ≡ get_or words i word) where
  -- the word is a file behind `--`
  pub files_more : (start so_far : RequestFields) (names : List (List ℕ)) (text : List ℕ) → text ≡ word.items →
      so_far ≡ with_files start (word_octets (take i words)) → names ≡ so_far.files ++ text ∷ [] →
      record so_far { files = names } ≡ with_files start (word_octets (take (i + 1) words))
  files_more start so_far names text text_is is added =
      ap (λ (l : List (List ℕ)). record so_far { files = l }) (added ∙ ap (λ (t : List ℕ). so_far.files ++ t ∷ []) text_is)
      ∙ ap (λ (r : RequestFields). record r { files = r.files ++ word.items ∷ [] }) is
      ∙ ap (λ (l : List (List ℕ)). record start { files = l })
      (append_assoc start.files (word_octets (take i words)) (word.items ∷ []) ∙
      ap (λ (l : List (List ℕ)). start.files ++ l) (sym (words_more words i word low there)))
