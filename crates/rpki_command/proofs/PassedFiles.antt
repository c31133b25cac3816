-- What is said of files, and of one more.
use Rattle.std.proofs.Common.{◌≡◌, ◌∷◌, ◌++◌, ◌∙◌, List, [], ap, refl, sym, append_assoc}
use Rattle.std.proofs.lemmas.List.{append-nil}
use Rattle.rpki_files.specs.Files.{FileFields}
use Rattle.rpki_answers.specs.VerdictTexts.{SaysOfEach}

module _ {X : Type 0} (Says : FileFields → List X → Type 0) (file : FileFields) (its : List X) (one : Says file its) where
  pub more_said : (files : List FileFields) (said : List X) → SaysOfEach Says files said →
      SaysOfEach Says (files ++ file ∷ []) (said ++ its)
  more_said [] said h = (its, [], one, refl, ap (λ (l : List X). l ++ its) h ∙ sym (append-nil its))
  more_said (f ∷ fs) said h =
      (h.0, h.1 ++ its, h.2, more_said fs h.1 h.3, ap (λ (l : List X). l ++ its) h.4 ∙ append_assoc h.0 h.1 its)
