-- Octets that are cut into strings, one after the other.
use Rattle.std.proofs.Common.{◌≡◌, ℕ, ◌+◌, ◌<◌, ◌≤◌, List, [], ◌∷◌, ◌++◌, length, map, take, get_or, sum, sym, ◌∙◌}
use Rattle.std.proofs.Common.{ap, arith, append_assoc, length-append}
use Rattle.std.specs.List.{concat, IsSplitAt}
use Rattle.std.proofs.lemmas.List.{append-nil, take-append-drop, take_more, take_all, map-append}
use Rattle.std.proofs.lemmas.List.Concat.{concat_is, length-flat_map}
use Rattle.std.proofs.lemmas.List.Folds.{concat-append}
use Rattle.std.proofs.lemmas.List.Sums.{sum-map, sum_by_more_le}

-- the octets are these strings and the rest, and the strings have the first of the lengths
pub record AreCutSoFar (octets lengths : List ℕ) (i : ℕ) (strings : List (List ℕ)) (rest : List ℕ) : Type 0 where
  pub joined : concat strings ++ rest ≡ octets
  pub lengths_are : map length strings ≡ take i lengths

pub length-concat : (strings : List (List ℕ)) → length (concat strings) ≡ sum (map length strings)
length-concat strings = ap length (concat_is strings) ∙ length-flat_map (λ s. s) strings ∙ sym (sum-map length strings)

pub sum_so_far : (octets lengths : List ℕ) (i : ℕ) (strings : List (List ℕ)) (rest : List ℕ) →
    AreCutSoFar octets lengths i strings rest → sum (take i lengths) + length rest ≡ length octets
sum_so_far octets lengths i strings rest h =
    ap (λ n. n + length rest) (sym (length-concat strings ∙ ap (λ xs. sum xs) h.lengths_are))
    ∙ sym (length-append (concat strings) rest) ∙ ap length h.joined

pub too_short : (octets lengths : List ℕ) (i : ℕ) (strings : List (List ℕ)) (rest : List ℕ) →
    AreCutSoFar octets lengths i strings rest
    → i < length lengths → length rest < get_or lengths i 0 → length octets < sum lengths
too_short octets lengths i strings rest h within short =
    omega (arith, sum_so_far octets lengths i strings rest h, sum_by_more_le (λ x. x) lengths i 0 within)

pub cut_more : (octets lengths : List ℕ) (i : ℕ) (strings : List (List ℕ)) (rest string after : List ℕ) →
    AreCutSoFar octets lengths i strings rest
    → i < length lengths → IsSplitAt rest (get_or lengths i 0) string after →
    AreCutSoFar octets lengths (i + 1) (strings ++ string ∷ []) after
cut_more octets lengths i strings rest string after h within split =
    let m = get_or lengths i 0 in
    let whole : string ++ after ≡ rest = ap (λ s. s ++ after) split.1 ∙ ap (λ a. take m rest ++ a) split.2 ∙
    take-append-drop m rest in
    record {
      joined = ap (λ x. x ++ after)
          (concat-append strings (string ∷ []) ∙ ap (λ s. concat strings ++ s) (append-nil string))
          ∙ append_assoc (concat strings) string after ∙ ap (λ r. concat strings ++ r) whole ∙ h.joined;
      lengths_are = map-append length strings (string ∷ []) ∙ ap (λ xs. xs ++ length string ∷ []) h.lengths_are
          ∙ ap (λ n. take i lengths ++ n ∷ []) split.3 ∙ sym (take_more lengths i 0 within);
    }

pub cut_all : (octets lengths : List ℕ) (i : ℕ) (strings : List (List ℕ)) (rest : List ℕ) →
    AreCutSoFar octets lengths i strings rest
    → length lengths ≤ i → sum lengths + length rest ≡ length octets
cut_all octets lengths i strings rest h whole =
    ap (λ n. n + length rest) (sym (ap (λ xs. sum xs) (take_all i lengths whole))) ∙
    sum_so_far octets lengths i strings rest h
