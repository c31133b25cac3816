-- So many files are such, one file more.
use Rattle.std.specs.Prelude.{IsTrue}
use Rattle.std.proofs.Common.{◌≡◌, ◌↔◌, ◌+◌, ◌≤◌, ℕ, Bool, true, false, List, [], ◌∷◌, ◌++◌, length, take, inl, inr}
use Rattle.std.proofs.Common.{refl, sym, ap, subst, ◌∙◌}
use Rattle.std.proofs.lemmas.Bool.{false≢true}
use Rattle.std.proofs.lemmas.List.{take_all}
use Rattle.rpki_files.specs.Files.{FileFields}
use Rattle.rpki_verdicts.specs.Damage.{AreSoMany}

module _ (Is : FileFields → Type 0) where
  counted_same : (files : List FileFields) (file : FileFields) (n : ℕ) → AreSoMany Is files n → (Is file → ⊥) →
      AreSoMany Is (files ++ file ∷ []) n
  counted_same [] file n are not = inl (not, are)
  counted_same (f ∷ files) file n (inl are) not = inl (are.0, counted_same files file n are.1 not)
  counted_same (f ∷ files) file n (inr are) not = inr (are.0, are.1, counted_same files file are.0 are.2 not, are.3)

  counted_more : (files : List FileFields) (file : FileFields) (n : ℕ) → AreSoMany Is files n → Is file →
      AreSoMany Is (files ++ file ∷ []) (n + 1)
  counted_more [] file n are is = inr (0, is, refl, ap (λ (m : ℕ). m + 1) are)
  counted_more (f ∷ files) file n (inl are) is = inl (are.0, counted_more files file n are.1 is)
  counted_more (f ∷ files) file n (inr are) is = inr (are.0 + 1, are.1, counted_more files file are.0 are.2 is, ap (λ (m : ℕ). m + 1) are.3)

  pub one_counted : (files : List FileFields) (file : FileFields) (n : ℕ) (b : Bool) → IsTrue b ↔ Is file →
      AreSoMany Is files n → b ≡ true → AreSoMany Is (files ++ file ∷ []) (n + 1)
  one_counted files file n b says are holds = counted_more files file n are (says.0 holds)

  pub none_counted : (files : List FileFields) (file : FileFields) (n : ℕ) (b : Bool) → IsTrue b ↔ Is file →
      AreSoMany Is files n → b ≡ false → AreSoMany Is (files ++ file ∷ []) n
  none_counted files file n b says are fails = counted_same files file n are (λ is. false≢true (sym fails ∙ says.1 is))

  pub all_counted : (files : List FileFields) (i n : ℕ) → length files ≤ i → AreSoMany Is (take i files) n → AreSoMany Is files n
  all_counted files i n high are = subst (λ (l : List FileFields). AreSoMany Is l n) (take_all i files high) are
