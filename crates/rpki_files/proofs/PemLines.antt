-- The lines of the first object of PEM in a text, as far as they were read.
use Rattle.std.specs.Fn.{CalledAt}
use Rattle.std.specs.Iterator.Adapters.{skip_source, skip_count, skip_steps, skip_while_source, skip_while_callee}
use Rattle.std.specs.Iterator.Adapters.{skip_while_done_skipping, skip_while_steps}
use Rattle.std.specs.Prelude.{nat_eq}
use Rattle.std.specs.List.{flat_map, list_any, position_or_len, prefix_len}
use Rattle.std.specs.Slice.Iter.{split_callee, split_done, split_rest, split_steps}
use Rattle.std.proofs.Common.{◌≡◌, ◌<◌, ℕ, zero, suc, Bool, true, false, not, List, [], ◌∷◌, ◌++◌, length, take}
use Rattle.std.proofs.Common.{get_or, Bor, refl, sym, ap, subst, ◌∙◌, arith}
use Rattle.std.proofs.lemmas.Bool.{or_parts, or_from, or_right}
use Rattle.std.proofs.lemmas.Iterator.{YieldsList}
use Rattle.std.proofs.lemmas.Iterator.Adapters.{YieldsList-from_skip, YieldsList-from_skip_while}
use Rattle.std.proofs.lemmas.Iterator.Consumers.{YieldsList-at}
use Rattle.std.proofs.lemmas.Iterator.Splits.{YieldsList-from_slice_split}
use Rattle.std.proofs.lemmas.List.{drop-drop, flat_map_more}
use denote.Param.Members.{Mut}
use Rattle.rpki_keys.specs.Digits.{without_white_space}
use Rattle.rpki_files.specs.PemFiles.{HasBase64, is_begin_line, is_end_line, lines_behind_begin, text_lines}

-- an element that passes, where none before it does, is the first
pub first_at : {X : Type 0} (p : X → Bool) (xs : List X) (n : ℕ) (x : X) → list_any p (take n xs) ≡ false →
    n < length xs → x ≡ get_or xs n x → p x ≡ true
    → (position_or_len p xs ≡ n) × (list_any p xs ≡ true)
first_at p [] n x none within at passes = absurd (omega arith)
first_at p (y ∷ ys) zero x none within at passes =
    let here : p y ≡ true = rw (← at) passes in
    (rw here, rw here)
first_at p (y ∷ ys) (suc n) x none within at passes =
    let parts = or_parts (p y) (list_any p (take n ys)) none in
    let not_here : p y ≡ false = parts.0 in
    let later = first_at p ys n x parts.1 (omega arith) at passes in
    (rw not_here (omega (arith, later.0)), or_right (p y) (list_any p ys) later.1)

-- one more element that doesn't pass
pub none_more : {X : Type 0} (p : X → Bool) (xs : List X) (x : X) → list_any p xs ≡ false → p x ≡ false → list_any p (xs ++ x ∷ []) ≡ false
none_more p [] x none fails = or_from (p x) false fails refl
none_more p (y ∷ ys) x none fails =
    let parts = or_parts (p y) (list_any p ys) none in
    or_from (p y) _ parts.0 (none_more p ys x parts.1 fails)

-- these are the digits of lines at none of which the object ends
pub record AreDigitsOf (digits : List ℕ) (seen : List (List ℕ)) : Type 0 where
  pub digits_are : digits ≡ flat_map without_white_space seen
  pub goes_on : list_any is_end_line seen ≡ false

-- one more line
pub digits_more : (old new line : List ℕ) (seen : List (List ℕ)) → AreDigitsOf old seen →
    new ≡ old ++ without_white_space line → is_end_line line ≡ false → AreDigitsOf new (seen ++ line ∷ [])
digits_more old new line seen h more fails = record {
  digits_are = more ∙ ap (λ (l : List ℕ). l ++ without_white_space line) h.digits_are ∙ flat_map_more without_white_space [] seen line;
  goes_on = none_more is_end_line seen line h.goes_on fails;
}

-- the line at which the object ends
pub ended_at : (digits text line : List ℕ) (seen : List (List ℕ)) (n : ℕ) → AreDigitsOf digits seen →
    seen ≡ take n (lines_behind_begin text)
    → (n < length (lines_behind_begin text)) × (line ≡ get_or (lines_behind_begin text) n line) →
    is_end_line line ≡ true → HasBase64 digits text
ended_at digits text line seen n h seen_is at passes =
    let goes_on : list_any is_end_line (take n (lines_behind_begin text)) ≡ false = rw (← seen_is) h.goes_on in
    let first = first_at is_end_line (lines_behind_begin text) n line goes_on at.0 at.1 passes in
    record {
      has_end = first.1;
      digits_are = h.digits_are ∙ ap (flat_map without_white_space) (seen_is ∙ ap (λ m. take m (lines_behind_begin text)) (sym first.0));
    }

-- no such line among all lines
pub never_ended : (digits other text : List ℕ) (seen : List (List ℕ)) → AreDigitsOf digits seen →
    seen ≡ lines_behind_begin text → ¬ HasBase64 other text
never_ended digits other text seen h seen_is has =
    let goes_on : list_any is_end_line (lines_behind_begin text) ≡ false = rw (← seen_is) h.goes_on in
    let ends : list_any is_end_line (lines_behind_begin text) ≡ true = has.has_end in
    cc

-- what is gone over: the lines behind the first at which an object begins
pub yields_behind_begin : {F G : Type 0} {called : Mut F (Bor (Bor (List ℕ)) × Unit {0}) Bool}
    {cut : Mut G (Bor ℕ × Unit {0}) Bool} {f : F} {g : G} {all : _} {from : _} {behind s : _} (text : List ℕ)
    → s ≡ behind → skip_source behind ≡ from → skip_count behind ≡ 1 → skip_while_source from ≡ all →
    skip_while_callee from ≡ f → skip_while_done_skipping from ≡ false
    → split_rest all ≡ text → split_done all ≡ false → split_callee all ≡ g
    → ((x : ℕ) (b : Bool) (q : G) → CalledAt cut g x b q → (q ≡ g) × (b ≡ nat_eq x 10))
    → ((x : Bor (List ℕ)) (b : Bool) (q : F) → CalledAt called f x b q → (q ≡ f) × (b ≡ not (is_begin_line x.now)))
    → YieldsList (skip_steps (skip_while_steps (split_steps cut) called)) (λ x. x.now) s (lines_behind_begin text)
yields_behind_begin {F} {G} {called} {cut} {f} {g} text same source count first callee skips rest undone cuts ends tests =
    subst (YieldsList (skip_steps (skip_while_steps (split_steps cut) called)) (λ x. x.now) _)
    (drop-drop 1 (prefix_len (λ x. not (is_begin_line x)) (text_lines text)) (text_lines text))
    (YieldsList-at same (YieldsList-from_skip 1
    (YieldsList-at source
    (YieldsList-from_skip_while (split_steps cut) (λ x. x.now) called (λ x. not (is_begin_line x)) f tests
    (YieldsList-at first (YieldsList-from_slice_split cut (λ x. nat_eq x 10) text rest undone cuts ends)) callee skips)) count))
