-- The words before the first `--`, and those behind it, by its place.
use Rattle.std.specs.List.{position_or_len}
use Rattle.std.specs.Prelude.{codes, IsTrue}
use Rattle.std.specs.declared.vec.Vec.{Vec}
use Rattle.std.proofs.Common.{◌≡◌, ◌↔◌, ◌+◌, ◌-◌, ◌<◌, ◌≤◌, ℕ, Bool, true, false, List, [], length, take, drop}
use Rattle.std.proofs.Common.{get_or, refl, sym, ap, ◌∙◌, arith}
use Rattle.std.proofs.lemmas.List.{length-drop, take-map, drop-map, take_all, drop_all}
use Rattle.std.proofs.lemmas.List.Sums.{position_or_len_is}
use Rattle.std.proofs.lemmas.Slice.Eq.{bytes_eq-Decides}
use Rattle.rpki_text.specs.WordParts.{is_dashes, words_before, words_behind}
use Rattle.rpki_text.specs.CommandLines.Views.{word_octets}
use Rattle.rpki_text.proofs.WordByWord.{octets_length}

not_dashes : (b : Bool) → (b ≡ true → ⊥) → b ≡ false
not_dashes true never = absurd (never refl)
not_dashes false never = refl

-- the test that the code makes
pub dashes_by : (word : List ℕ) (flag : Bool) → (IsTrue flag ↔ (word ≡ codes "--")) → is_dashes word ≡ flag
dashes_by word true says = (bytes_eq-Decides word (codes "--")).1 (says.0 refl)
dashes_by word false says =
    not_dashes (is_dashes word) (λ same. let never : false ≡ true = says.1 ((bytes_eq-Decides word (codes "--")).0 same) in cc)

module _ {Z : Type 0} (words : List (Vec ℕ Z)) where
  -- all words behind a place
  pub all_behind : (n : ℕ) → take (length words - n) (drop n words) ≡ drop n words
  all_behind n = take_all (length words - n) (drop n words) (omega (arith, length-drop n words))

  module _ (i : ℕ) (before : (k : ℕ) → k < i → is_dashes (get_or (word_octets words) k []) ≡ false) where
    module _ (low : i < length words) (here : is_dashes (get_or (word_octets words) i []) ≡ true) where
      place_is : position_or_len is_dashes (word_octets words) ≡ i
      place_is =
          let low_too : i ≤ length (word_octets words) = omega (arith, octets_length words) in
          position_or_len_is is_dashes (word_octets words) i [] low_too before (λ less. here)

      -- `--` stands at this place
      pub before_place : word_octets (take i words) ≡ words_before (word_octets words)
      before_place = sym (take-map (λ word. word.items) i words) ∙ ap (λ (n : ℕ). take n (word_octets words)) (sym place_is)

      pub behind_place : word_octets (take (length words - (i + 1)) (drop (i + 1) words)) ≡ words_behind (word_octets words)
      behind_place = ap word_octets (all_behind (i + 1)) ∙ sym (drop-map (λ word. word.items) (i + 1) words) ∙
          ap (λ (n : ℕ). drop (n + 1) (word_octets words)) (sym place_is)

    module _ (high : length words ≤ i) where
      none_is : position_or_len is_dashes (word_octets words) ≡ length (word_octets words)
      none_is =
          let fits : length (word_octets words) ≤ length (word_octets words) = omega arith in
          position_or_len_is is_dashes (word_octets words) (length (word_octets words)) [] fits
          (λ k less. let less_too : k < i = omega (arith, octets_length words) in before k less_too) (λ less. absurd (omega arith))

      -- it stands nowhere
      pub before_none : word_octets words ≡ words_before (word_octets words)
      before_none = sym (take_all (length (word_octets words)) (word_octets words) (omega arith)) ∙
          ap (λ (n : ℕ). take n (word_octets words)) (sym none_is)

      pub behind_none : [] ≡ words_behind (word_octets words)
      behind_none = sym (drop_all (length (word_octets words) + 1) (word_octets words) (omega arith)) ∙
          ap (λ (n : ℕ). drop (n + 1) (word_octets words)) (sym none_is)
