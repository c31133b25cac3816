-- The first line of octets.
use Rattle.std.proofs.Common.{◌≡◌, ◌≢◌, ◌==◌, ◌<◌, ◌≤◌, ◌+◌, ◌-◌, ℕ, Bool, true, false, cond, ltb, Some, None, List}
use Rattle.std.proofs.Common.{[], ◌∷◌, length, take, drop, refl, ap, ◌∙◌, arith}
use Rattle.std.proofs.Math.Seq.{take_all}
use Rattle.std.proofs.lemmas.Bool.{ltb-true, ltb-false, ne_eqb}
use Rattle.std.proofs.lemmas.List.{length-drop}
use Rattle.std.proofs.lemmas.List.Splits.{slice_split_first, slice_split_none, length-slice_split}
use Rattle.std.proofs.lemmas.List.Sums.{fails_before_first}
use Rattle.std.proofs.lemmas.Option.{cond_some}
use Rattle.std.specs.List.{position_or_len, slice_split}
use Rattle.std.specs.Str.Lines.{lines, lines_of_parts, strip_carriage_return}

-- LF
abbrev pub is_line_end : ℕ → Bool
is_line_end octet = octet == 10

first_part : (x : List ℕ) (parts : List (List ℕ)) → 0 < length parts →
    lines_of_parts (x ∷ parts) ≡ strip_carriage_return x ∷ lines_of_parts parts
first_part x [] some = absurd (omega arith)
first_part x (y ∷ more) some = refl

-- what stands before the first LF is the first line
pub line_ends : (text : List ℕ) (end : ℕ) →
    cond (ltb (position_or_len is_line_end text) (length text)) (Some (position_or_len is_line_end text)) None ≡
    Some end
    → lines text ≡ strip_carriage_return (take end text) ∷ lines (take (length text - (end + 1)) (drop (end + 1) text))
line_ends text end found =
    let place : ℕ = position_or_len is_line_end text in
    let here = cond_some (ltb place (length text)) place end found in
    let within : place < length text = ltb-true place (length text) here.0 in
    let whole : take (length text - (end + 1)) (drop (end + 1) text) ≡ drop (end + 1) text =
    take_all _ _ (omega (arith, length-drop (end + 1) text)) in
    rw whole (rw (← here.1) (ap lines_of_parts (slice_split_first is_line_end text 0 within)
    ∙ first_part (take place text) (slice_split is_line_end (drop (place + 1) text))
    (omega (arith, length-slice_split is_line_end (drop (place + 1) text)))))

none_before : (b : Bool) (n : ℕ) → cond b (Some n) None ≡ None → b ≡ false
none_before true n e = absurd cc
none_before false n e = refl

-- where there is no LF, all is one line
pub one_line : (text : List ℕ) → text ≢ [] →
    cond (ltb (position_or_len is_line_end text) (length text)) (Some (position_or_len is_line_end text)) None ≡
    None → lines text ≡ text ∷ []
one_line [] some none = absurd (some refl)
one_line (x ∷ t) some none =
    let text = x ∷ t in
    let place : ℕ = position_or_len is_line_end text in
    let past : length text ≤ place = ltb-false place (length text) (none_before _ place none) in
    ap lines_of_parts (slice_split_none is_line_end text (λ k d within. fails_before_first is_line_end text k d (omega arith)))
    ∙ ap (λ b. cond b [] (text ∷ [])) (ne_eqb (length text) 0 (λ e. omega arith))
