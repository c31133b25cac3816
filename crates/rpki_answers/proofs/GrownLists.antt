-- Lists that grow by what is said of each file, one after the other.
use Rattle.std.proofs.Common.{◌≡◌, ◌∙◌, ◌+◌, ◌<◌, ◌≤◌, ℕ, List, [], ◌∷◌, ◌++◌, length, take, get_or, refl, sym, ap, subst, append_assoc}
use Rattle.std.proofs.lemmas.List.{append-nil, take_more, take_all}
use Rattle.rpki_files.specs.Files.{FileFields}
use Rattle.rpki_answers.specs.ShownFiles.{Grows}
use Rattle.rpki_answers.specs.VerdictTexts.{SaysOfEach}

-- by something and more
pub then_grown : {X : Type 0} (old mid new a b : List X) → mid ≡ old ++ a → new ≡ mid ++ b → new ≡ old ++ (a ++ b)
then_grown {X} old mid new a b p q = q ∙ ap (λ (l : List X). l ++ b) p ∙ append_assoc old a b

-- by nothing, where it may be nothing
pub none_grown : {X : Type 0} (P : List X → Type 0) (old : List X) → P [] → Grows P old old
none_grown P old holds = ([], holds, sym (append-nil old))

-- from nothing on
pub from_nothing : {X : Type 0} (P : List X → Type 0) (old new : List X) → old ≡ [] → Grows P old new → P new
from_nothing {X} P old new none grown =
    subst P (sym (grown.2 ∙ ap (λ (l : List X). l ++ grown.0) none)) grown.1

-- what is said of one file more
says_more : {X : Type 0} (Says : FileFields → List X → Type 0) (files : List FileFields) (so_far : List X)
    (file : FileFields) (text : List X) → SaysOfEach Says files so_far → Says file text →
    SaysOfEach Says (files ++ file ∷ []) (so_far ++ text)
says_more {X} Says [] so_far file text is says =
    (text, [], says, refl, ap (λ (l : List X). l ++ text) is ∙ sym (append-nil text))
says_more {X} Says (f ∷ fs) so_far file text is says = (
  is.0,
  is.1 ++ text,
  is.2,
  says_more Says fs is.1 file text is.3 says,
  ap (λ (l : List X). l ++ text) is.4 ∙
      append_assoc is.0 is.1 text,
)

module _ {X : Type 0} (Says : FileFields → List X → Type 0) (files : List FileFields) where
  -- by what is said of one file more
  pub grown_more : (i : ℕ) (file : FileFields) (old mid new : List X) → i < length files → file ≡ get_or files i file
      → Grows (SaysOfEach Says (take i files)) old mid → Grows (Says file) mid new
      → Grows (SaysOfEach Says (take (i + 1) files)) old new
  grown_more i file old mid new low there so_far one =
      let more : take (i + 1) files ≡ take i files ++ file ∷ [] =
      take_more files i file low ∙ ap (λ (y : FileFields). take i files ++ y ∷ []) (sym there) in (
        so_far.0 ++ one.0,
        subst (λ (l : List FileFields). SaysOfEach Says l (so_far.0 ++ one.0)) (sym more)
            (says_more Says (take i files) so_far.0 file one.0 so_far.1 one.1),
        then_grown old mid new so_far.0 one.0 so_far.2 one.2,
      )

  -- by what is said of all
  pub grown_all : (i : ℕ) (old new : List X) → length files ≤ i
      → Grows (SaysOfEach Says (take i files)) old new → Grows (SaysOfEach Says files) old new
  grown_all i old new high all =
      subst (λ (l : List FileFields). Grows (SaysOfEach Says l) old new) (take_all i files high) all
