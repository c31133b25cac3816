-- A text that is two texts.
use Rattle.std.specs.Prelude.{bytes_eq}
use Rattle.std.proofs.Common.{◌≡◌, ℕ, true, false, List, ◌++◌, length, take, drop, refl, sym, ap, ◌∙◌}
use Rattle.std.proofs.lemmas.List.{take-append-drop, take_at, drop_at}
use Rattle.std.proofs.lemmas.Slice.Eq.{bytes_eq-Decides}

-- texts that compare equal are equal
pub same_text : (a b : List ℕ) → bytes_eq a b ≡ true → a ≡ b
same_text a b e = (bytes_eq-Decides a b).0 e

-- equal texts compare equal
pub text_is : (a b : List ℕ) → a ≡ b → bytes_eq a b ≡ true
text_is a b e = (bytes_eq-Decides a b).1 e

-- behind a front that is a, the rest tells
pub joined : (s a b : List ℕ) → bytes_eq (take (length a) s) a ≡ true →
    (bytes_eq (drop (length a) s) b ≡ true → s ≡ a ++ b) × (s ≡ a ++ b → bytes_eq (drop (length a) s) b ≡ true)
joined s a b e = (
  (λ r. sym (take-append-drop (length a) s) ∙ ap (λ (x : List ℕ). x ++ drop (length a) s)
      (same_text (take (length a) s) a e) ∙ ap (λ (x : List ℕ). a ++ x) (same_text (drop (length a) s) b r)),
  λ j. text_is (drop (length a) s) b (ap (drop (length a)) j ∙ drop_at a b (length a) refl),
)

-- a text with another front doesn't begin with this one
pub not_joined : (s a b : List ℕ) → bytes_eq (take (length a) s) a ≡ false → s ≡ a ++ b → ⊥
not_joined s a b e j = let t = text_is (take (length a) s) a (ap (take (length a)) j ∙ take_at a b (length a) refl) in absurd cc
