-- Where a separator stands first.
use Rattle.std.proofs.Common.{◌≡◌, ◌==◌, ℕ, zero, suc, ◌+◌, ◌-◌, ◌<◌, ◌≤◌, Bool, true, false, not, List, [], ◌∷◌}
use Rattle.std.proofs.Common.{◌++◌, length, get_or, take, drop, Option, Some, None, refl, sym, ap, subst, ◌∙◌, arith}
use Rattle.std.proofs.Common.{add-one, drop-cons, take-append-drop}
use Rattle.std.specs.Prelude.{nat_lt, nat_eq, cond, bytes_eq, MatchOption, IfSome, IfNone, codes, ◌≢◌}
use Rattle.std.specs.Cmp.Lexicographic.{pointwise}
use Rattle.std.specs.List.{position, position_or_len}
use Rattle.std.proofs.lemmas.Bool.{eq-eqb, eqb-true, ltb-false, false≢true}
use Rattle.std.proofs.lemmas.List.{take_rest, append_cancel_left}
use Rattle.std.proofs.lemmas.Slice.Eq.{bytes_eq-Decides}
use Rattle.std.proofs.Math.Seq.{take-length}
use Rattle.std.proofs.lemmas.List.Quantifiers.{position-Some}
use Rattle.std.proofs.lemmas.List.Sums.{prefix_len_passes}
use Rattle.rpki_lines.specs.TextLines.{IsWithout}
use Rattle.rpki_lines.specs.InputLines.{revoked_line, IsOctetsLine}
use Rattle.rpki_lines.specs.HexWords.{IsHexWord}

-- whether the octet is this one
abbrev pub is : ℕ → ℕ → Bool
is octet = λ other. other == octet

without_below : (octet : ℕ) (text : List ℕ) (n : ℕ) → ((k : ℕ) → k < n → is octet (get_or text k 0) ≡ false) → IsWithout octet (take n text)
without_below octet text zero none = tt
without_below octet [] (suc n) none = tt
without_below octet (x ∷ text) (suc n) none = (
  λ same. false≢true (sym (none 0 (omega arith)) ∙ eq-eqb x octet same),
  without_below octet text n (λ k below. none (suc k) (omega arith)),
)

-- before the first place of an octet it doesn't stand
pub without_before : (octet : ℕ) (text : List ℕ) (n : ℕ) → position (is octet) text ≡ Some n → IsWithout octet (take n text)
without_before octet text n e = without_below octet text n (position-Some (is octet) text n 0 e).2

-- and there it stands
pub parts_at : (octet : ℕ) (text : List ℕ) (n : ℕ) → position (is octet) text ≡ Some n →
    text ≡ take n text ++ octet ∷ take (length text - (n + 1)) (drop (n + 1) text)
parts_at octet text n e =
    let found = position-Some (is octet) text n 0 e in
    let here : get_or text n 0 ≡ octet = eqb-true (get_or text n 0) octet found.1 in
    let whole : text ≡ take n text ++ octet ∷ drop (suc n) text =
    sym (take-append-drop n text) ∙ ap (λ (l : List ℕ). take n text ++ l)
    (drop-cons text n 0 found.0 ∙ ap (λ (x : ℕ). x ∷ drop (suc n) text) here) in
    rw (take_rest text (n + 1), add-one) whole

no_place : (found : Bool) (n : ℕ) → cond found (Some n) None ≡ None → found ≡ false
no_place true n e = absurd cc
no_place false n e = refl

fails : (b : Bool) → not b ≡ true → b ≡ false
fails true e = absurd (false≢true e)
fails false e = refl

-- with no place, it stands nowhere
pub without_any : (octet : ℕ) (text : List ℕ) → position (is octet) text ≡ None → IsWithout octet text
without_any octet text e =
    let m = position_or_len (is octet) text in
    let past : length text ≤ m = ltb-false m (length text) (no_place (nat_lt m (length text)) m e) in
    let whole : IsWithout octet (take (length text) text) =
    without_below octet text (length text)
    (λ k below. fails (is octet (get_or text k 0))
    (prefix_len_passes (λ x. not (is octet x)) text k 0 (omega arith))) in
    rw take-length at whole

-- what stands before the first separator, and after it, is determined
pub one_split : (octet : ℕ) (a b x y : List ℕ) → IsWithout octet a → IsWithout octet b → a ++ octet ∷ x ≡ b ++ octet ∷ y → (a ≡ b) × (x ≡ y)
one_split octet [] [] x y p q e = (refl, cc)
one_split octet [] (d ∷ b) x y p q e = let same : d ≡ octet = cc in absurd (q.0 same)
one_split octet (c ∷ a) [] x y p q e = let same : c ≡ octet = cc in absurd (p.0 same)
one_split octet (c ∷ a) (d ∷ b) x y p q e =
    let tail : a ++ octet ∷ x ≡ b ++ octet ∷ y = cc in
    let rest = one_split octet a b x y p.1 q.1 tail in
    let first : c ≡ d = cc in
    (cc (first, rest.0), rest.1)

-- an octet that stands in a text isn't absent from it
pub stands_in : (octet : ℕ) (a x : List ℕ) → IsWithout octet (a ++ octet ∷ x) → ⊥
stands_in octet [] x w = w.0 refl
stands_in octet (c ∷ a) x w = stands_in octet a x w.1

-- what a None has may be weakened
pub none_where : {X : Type 0} {P Q : Type 0} (o : Option X) → (P → Q) → IfNone o P → IfNone o Q
none_where (Some x) f h = h
none_where None f h = f h

-- ---- the words of a line

one_word : IsWithout 32 (codes "revoked")
one_word = let differ : (x : ℕ) → 32 < x → x ≢ 32 = λ x more e. omega arith in (
  differ 114 (omega arith),
  (
    differ 101 (omega arith),
    (
      differ 118 (omega arith),
      (
        differ 111 (omega arith),
        (differ 107 (omega arith), (differ 101 (omega arith), (differ 100 (omega arith), tt))),
      ),
    ),
  ),
)

-- "revoked" is the first word of such a line, and its other words follow
pub words_of : (line form words list serial : List ℕ) → IsWithout 32 form → line ≡ form ++ 32 ∷ words →
    line ≡ revoked_line list serial → (form ≡ codes "revoked") × (words ≡ list ++ 32 ∷ (serial ++ []))
words_of line form words list serial without is e =
    one_split 32 form (codes "revoked") words (list ++ 32 ∷ (serial ++ [])) without one_word (sym is ∙ e)

-- a word that compares different from revoked is another word
pub other_form : (form : List ℕ) → true ≡ not (pointwise nat_eq form (codes "revoked")) → form ≡ codes "revoked" → ⊥
other_form form differs same = false≢true (sym (differs ∙ rw same refl))

-- ---- what stands behind a beginning

module _ {X : Type 0} (now : X → List ℕ) (beginning line : List ℕ) where
  abbrev Strips : Option X → Type 0
  Strips o =
      MatchOption o (bytes_eq (take (length beginning) line) beginning ≡ false)
      (λ x. (bytes_eq (take (length beginning) line) beginning ≡ true) × (now x ≡ drop (length beginning) line) ×
      (length (now x) + length beginning ≡ length line))

  -- what is stripped off a line is its beginning
  pub stripped : (o : Option X) → Strips o → IfSome o (λ x. line ≡ beginning ++ now x)
  stripped None h = tt
  stripped (Some x) h =
      let front : take (length beginning) line ≡ beginning = (bytes_eq-Decides (take (length beginning) line) beginning).0 h.0 in
      sym (take-append-drop (length beginning) line) ∙ ap (λ (l : List ℕ). l ++ drop (length beginning) line) front ∙
      ap (λ (l : List ℕ). beginning ++ l) (sym h.1)

  front_of : (a b : List ℕ) → take (length a) (a ++ b) ≡ a
  front_of [] b = refl
  front_of (x ∷ a) b = ap (λ (l : List ℕ). x ∷ l) (front_of a b)

  -- a line that nothing is stripped off doesn't begin so
  pub not_stripped : (o : Option X) → Strips o → IfNone o ((rest : List ℕ) → line ≡ beginning ++ rest → ⊥)
  not_stripped (Some x) h = tt
  not_stripped None h = λ rest e.
      let front : take (length beginning) line ≡ beginning = ap (λ (l : List ℕ). take (length beginning) l) e ∙ front_of beginning rest in
      false≢true (sym h ∙ (bytes_eq-Decides (take (length beginning) line) beginning).1 front)

-- a word is all that stands behind a name
pub no_word : (name word line : List ℕ) → line ≡ name ++ word → ((octets : List ℕ) → IsHexWord octets word → ⊥) →
    (octets : List ℕ) → IsOctetsLine name octets line → ⊥
no_word name word line e none octets h =
    let same : h.word ≡ word = append_cancel_left name h.word word (sym h.is ∙ e) in
    none octets (subst (λ (w : List ℕ). IsHexWord octets w) same h.word_is)
