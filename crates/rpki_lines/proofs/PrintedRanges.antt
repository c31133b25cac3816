-- The words of a set.
use Rattle.std.specs.Prelude.{codes, OnOk}
use Rattle.std.specs.List.{concat}
use Rattle.std.proofs.Common.{◌≡◌, ℕ, List, [], ◌∷◌, ◌++◌, map, Result, Ok, Err, refl, sym, ap, ◌∙◌}
use Rattle.std.proofs.lemmas.List.{append-nil}
use Rattle.rpki_blocks.specs.Sets.{Block}
use Rattle.rpki_lines.specs.TextLines.{space}
use Rattle.rpki_lines.specs.PrintedSets.{range, ranges, name_and_words}
use Rattle.rpki_lines.specs.Program.{output_of}

spaced : (end_of : ℕ → List ℕ) (bs : List Block) → concat (map (λ word. space ∷ word) (map (range end_of) bs)) ≡
    concat (map (λ block. space ∷ range end_of block) bs)
spaced end_of [] = refl
spaced end_of (b ∷ bs) = ap (λ (l : List ℕ). (space ∷ range end_of b) ++ l) (spaced end_of bs)

-- ranges that are printed one by one are the line of some blocks
pub ranges_some : (end_of : ℕ → List ℕ) (name : List ℕ) (bs : List Block) → (bs ≡ [] → ⊥) →
    name ++ concat (map (λ block. space ∷ range end_of block) bs) ≡ name_and_words name (ranges end_of bs)
ranges_some end_of name [] some = absurd (some refl)
ranges_some end_of name (b ∷ bs) some = ap (λ (l : List ℕ). name ++ l) (sym (spaced end_of (b ∷ bs)))

-- a line of no blocks says "none"
pub ranges_none : (end_of : ℕ → List ℕ) (name : List ℕ) (bs : List Block) → bs ≡ [] →
    name ++ codes " none" ≡ name_and_words name (ranges end_of bs)
ranges_none end_of name [] none = refl
ranges_none end_of name (b ∷ bs) none = absurd cc

-- a text and the end of a line are what is printed of it
pub whole_line : (text line : List ℕ) → text ≡ line → text ++ 10 ∷ [] ≡ output_of (line ∷ [])
whole_line text line e = ap (λ (l : List ℕ). l ++ 10 ∷ []) (e ∙ sym (append-nil line))

-- what is true after an Ok may be weakened
pub on_ok : {X E P Q : Type 0} (r : Result X E) → (P → Q) → OnOk r P → OnOk r Q
on_ok (Ok x) f h = f h
on_ok (Err e) f h = h
