-- Digits in lines.
use Rattle.std.specs.List.{flat_map}
use Rattle.std.proofs.Common.{◌≡◌, ◌∙◌, ◌++◌, ◌∷◌, ℕ, List, [], ap, sym, append_assoc}
use Rattle.std.proofs.lemmas.List.{flat_map_more}

-- one more line of them
pub more_digits : (digits rest line behind : List ℕ) (lines : List (List ℕ)) →
    digits ≡ flat_map (λ l. l) lines ++ rest → rest ≡ line ++ behind →
    digits ≡ flat_map (λ l. l) (lines ++ line ∷ []) ++ behind
more_digits digits rest line behind lines are parts =
    are ∙ ap (λ (l : List ℕ). flat_map (λ l. l) lines ++ l) parts ∙ sym (append_assoc (flat_map (λ l. l) lines) line behind)
    ∙ ap (λ (l : List ℕ). l ++ behind) (flat_map_more (λ (l : List ℕ). l) [] lines line)

-- and of their text
pub more_text : (f : List ℕ → List ℕ) (old text next line : List ℕ) (lines : List (List ℕ)) →
    text ≡ old ++ flat_map f lines → next ≡ text ++ f line → next ≡ old ++ flat_map f (lines ++ line ∷ [])
more_text f old text next line lines is more =
    more ∙ ap (λ (l : List ℕ). l ++ f line) is ∙ flat_map_more f old lines line
