-- A line `revoked LIST SERIAL` has one list and one serial.
use Rattle.std.proofs.Common.{◌≡◌, ℕ, inl, inr, List, [], ◌∷◌, ◌++◌, drop, refl, sym, ap, subst, ◌∙◌, arith, codes, ◌≢◌}
use Rattle.std.proofs.lemmas.List.{append-nil}
use Rattle.rpki_lines.specs.HexWords.{IsHexDigit, AreHexDigits, IsHexWord}
use Rattle.rpki_lines.specs.TextLines.{IsWithout}
use Rattle.rpki_lines.specs.InputLines.{revoked_line, IsRevokedLine}
use Rattle.rpki_lines.proofs.HexDigits.{digits_read}
use Rattle.rpki_lines.proofs.Splits.{one_split}

digit_no_space : (value digit : ℕ) → IsHexDigit value digit → digit ≢ 32
digit_no_space value digit (inl h) = λ e. omega (arith, h.1)
digit_no_space value digit (inr (inl h)) = λ e. omega (arith, h.0, h.2)
digit_no_space value digit (inr (inr h)) = λ e. omega (arith, h.0, h.2)

digits_no_space : (octets text : List ℕ) → AreHexDigits octets text → IsWithout 32 text
digits_no_space [] [] d = tt
digits_no_space [] (x ∷ text) d = elim d [ ]
digits_no_space (o ∷ octets) [] d = elim d [ ]
digits_no_space (o ∷ octets) (x ∷ []) d = elim d [ ]
digits_no_space (o ∷ octets) (x ∷ y ∷ text) d =
    (digit_no_space d.0.high x d.0.high_is, (digit_no_space d.0.low y d.0.low_is, digits_no_space octets text d.1))

word_no_space : (octets word : List ℕ) → IsHexWord octets word → IsWithout 32 word
word_no_space [] word h = let differ : (x : ℕ) → x ≡ 45 → x ≢ 32 = λ x is e. omega arith in rw h (differ 45 refl, tt)
word_no_space (o ∷ octets) word h = digits_no_space (o ∷ octets) word h

no_dash : (o : ℕ) (octets word : List ℕ) → word ≡ codes "-" → AreHexDigits (o ∷ octets) word → ⊥
no_dash o octets word e d = let h : AreHexDigits (o ∷ octets) (codes "-") =
    subst (λ (w : List ℕ). AreHexDigits (o ∷ octets) w) e d in elim h [ ]

-- a word is the digits of one string
pub one_value : (a b word : List ℕ) → IsHexWord a word → IsHexWord b word → a ≡ b
one_value [] [] word p q = refl
one_value [] (o ∷ b) word p q = absurd (no_dash o b word p q)
one_value (o ∷ a) [] word p q = absurd (no_dash o a word q p)
one_value (o ∷ a) (r ∷ b) word p q =
    let first = digits_read word (o ∷ a) p in
    let second = digits_read word (r ∷ b) q in
    cc

-- the two words are those of this list and of these octets
pub record SameWords (list octets lw sw : List ℕ) : Type 0 where
  pub list_is : IsHexWord list lw
  pub octets_are : IsHexWord octets sw

-- the words of a line, where it is cut at its spaces
pub same_words : (line lw sw list : List ℕ) (serial : ℕ) → line ≡ revoked_line lw sw → IsWithout 32 lw →
    (h : IsRevokedLine list serial line) → SameWords list h.serial_octets lw sw
same_words line lw sw list serial e without h =
    let tails : h.list_word ++ 32 ∷ (h.serial_word ++ []) ≡ lw ++ 32 ∷ (sw ++ []) = ap (λ (l : List ℕ). drop 8 l) (sym h.is ∙ e) in
    let parts = one_split 32 h.list_word lw (h.serial_word ++ []) (sw ++ []) (word_no_space list h.list_word h.list_is) without tails in
    let second : h.serial_word ≡ sw = sym (append-nil h.serial_word) ∙ (parts.1 ∙ append-nil sw) in
    record {
      list_is = subst (λ (w : List ℕ). IsHexWord list w) parts.0 h.list_is;
      octets_are = subst (λ (w : List ℕ). IsHexWord h.serial_octets w) second h.octets_are;
    }

-- a line that isn't "revoked" and two words tells of no list
pub no_words : (line : List ℕ) → ((lw sw : List ℕ) → IsWithout 32 lw → line ≡ revoked_line lw sw → ⊥) →
    (list : List ℕ) (serial : ℕ) → IsRevokedLine list serial line → ⊥
no_words line none list serial h = none h.list_word h.serial_word (word_no_space list h.list_word h.list_is) h.is
