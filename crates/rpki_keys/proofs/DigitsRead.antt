-- Lines of digits, gathered octet by octet.
use Rattle.std.specs.Char.{is_ascii_whitespace}
use Rattle.std.specs.Prelude.{not}
use Rattle.std.proofs.Common.{◌≡◌, ℕ, ◌+◌, ◌<◌, true, false, List, [], ◌∷◌, ◌++◌, length, get_or, take, refl, sym, ap, ◌∙◌, append_assoc}
use Rattle.std.proofs.lemmas.List.{append-nil, take_at}
use Rattle.std.proofs.lemmas.List.Elements.{filter_more}
use Rattle.rpki_keys.specs.Digits.{without_white_space}

-- an octet that is no white space goes in
pub goes_in : (line old now new : List ℕ) (i : ℕ) → i < length line → false ≡ is_ascii_whitespace (get_or line i 0) →
    now ≡ old ++ without_white_space (take i line) → new ≡ now ++ get_or line i 0 ∷ [] →
    new ≡ old ++ without_white_space (take (i + 1) line)
goes_in line old now new i lt digit before pushed =
    let one : without_white_space (take (i + 1) line) ≡ without_white_space (take i line) ++ get_or line i 0 ∷ [] =
    rw (← digit) at (filter_more (λ octet. not (is_ascii_whitespace octet)) line i 0 lt) in
    pushed ∙ ap (λ (s : List ℕ). s ++ get_or line i 0 ∷ []) before ∙
    append_assoc old (without_white_space (take i line)) (get_or line i 0 ∷ []) ∙
    ap (λ (s : List ℕ). old ++ s) (sym one)

-- white space stays out
pub stays_out : (line old now new : List ℕ) (i : ℕ) → i < length line → true ≡ is_ascii_whitespace (get_or line i 0) →
    now ≡ old ++ without_white_space (take i line) → new ≡ now →
    new ≡ old ++ without_white_space (take (i + 1) line)
stays_out line old now new i lt white before same =
    let one : without_white_space (take (i + 1) line) ≡ without_white_space (take i line) ++ [] =
    rw (← white) at (filter_more (λ octet. not (is_ascii_whitespace octet)) line i 0 lt) in
    same ∙ before ∙ ap (λ (s : List ℕ). old ++ s) (sym (one ∙ append-nil (without_white_space (take i line))))

-- what has gone in is taken away again
pub taken_away : (old added now new : List ℕ) (before : ℕ) → before ≡ length old → now ≡ old ++ added → new ≡ take before now → new ≡ old
taken_away old added now new before here is cut = cut ∙ rw (here, is) (take_at old added (length old) refl)
