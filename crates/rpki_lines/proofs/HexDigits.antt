-- Hexadecimal digits, as they are decoded and as they are defined.
use Rattle.std.proofs.Common.{◌≡◌, ℕ, ◌+◌, ◌-◌, ◌*◌, ◌%◌, ◌≤◌, ◌==◌, ◌⊎◌, inl, inr, Bool, true, false, cond, ◌&&◌}
use Rattle.std.proofs.Common.{List, [], ◌∷◌, length, Option, Some, None, Result, Ok, Err, refl, subst, ◌∙◌, arith}
use Rattle.std.specs.Prelude.{nat_le, nat_eq, codes, IfOk, IfNone}
use Rattle.std.specs.Cmp.Lexicographic.{pointwise}
use Rattle.std.proofs.lemmas.Bool.{and_parts, leb-true, ne_eqb, false≢true}
use Rattle.std.proofs.lemmas.Bool.Decides.{nat_tests}
use Rattle.hex.specs.Hex.{hex_digit_value, digit_or_error, value_at, pair_value, decode_pairs, decode_of, ◌>>=◌}
use Rattle.hex.specs.declared.error.FromHexError.{FromHexError}
use Rattle.hex.specs.declared.error.FromHexError.TheVariants.{OddLength}
use Rattle.rpki_lines.specs.HexWords.{IsHexDigit, IsHexPair, AreHexDigits, IsHexWord}

-- which test passed
chosen : (a b c : Bool) (x y z v : ℕ) → cond a (Some x) (cond b (Some y) (cond c (Some z) None)) ≡ Some v
    → ((a ≡ true) × (v ≡ x)) ⊎ (((b ≡ true) × (v ≡ y)) ⊎ ((c ≡ true) × (v ≡ z)))
chosen true b c x y z v e = inl (refl, cc)
chosen false true c x y z v e = inr (inl (refl, cc))
chosen false false true x y z v e = inr (inr (refl, cc))
chosen false false false x y z v e = absurd cc

abbrev within : ℕ → ℕ → ℕ → Bool
within low high n = nat_le low n && nat_le n high

is_within : (low high n : ℕ) → within low high n ≡ true → (low ≤ n) × (n ≤ high)
is_within low high n e = let p = and_parts (nat_le low n) (nat_le n high) e in (leb-true low n p.0, leb-true n high p.1)

digit_is : (value digit : ℕ) → hex_digit_value digit ≡ Some value → IsHexDigit value digit
digit_is value digit e =
    elim (chosen (within 65 70 digit) (within 97 102 digit) (within 48 57 digit) (digit - 55) (digit - 87) (digit - 48) value e) [
      | inl upper ↦ let p = is_within 65 70 digit upper.0 in let v = upper.1 in inr (inl (omega arith, omega arith, omega arith))
      | inr others ↦ elim others [
        | inl lower ↦ let p = is_within 97 102 digit lower.0 in let v = lower.1 in inr (inr (omega arith, omega arith, omega arith))
        | inr decimal ↦ let p = is_within 48 57 digit decimal.0 in let v = decimal.1 in inl (omega arith, omega arith)
      ]
    ]

digit_reads : (value digit : ℕ) → IsHexDigit value digit → hex_digit_value digit ≡ Some value
digit_reads value digit (inl h) = rw h.1 (grind (arith, nat_tests))
digit_reads value digit (inr (inl h)) = let e : digit ≡ 55 + value = omega arith in rw e (grind (arith, nat_tests))
digit_reads value digit (inr (inr h)) = let e : digit ≡ 87 + value = omega arith in rw e (grind (arith, nat_tests))

-- ---- pairs of digits

bind_ok : {A B : Type 0} (r : Result A FromHexError) (f : A → Result B FromHexError) (y : B)
    → (r >>= f) ≡ Ok y → (x : A) × (r ≡ Ok x) × (f x ≡ Ok y)
bind_ok (Ok x) f y h = (x, refl, h)
bind_ok (Err e) f y h = absurd cc

value_ok : (digit i : ℕ) (o : Option ℕ) (v : ℕ) → digit_or_error digit i o ≡ Ok v → o ≡ Some v
value_ok digit i (Some w) v h = cc
value_ok digit i None v h = absurd cc

pair_is : (octet x y i : ℕ) → pair_value x y i ≡ Ok octet → IsHexPair octet x y
pair_is octet x y i e =
    let high = bind_ok (value_at x i) (λ h. value_at y (i + 1) >>= λ l. Ok (h * 16 + l)) octet e in
    let low = bind_ok (value_at y (i + 1)) (λ l. Ok (high.0 * 16 + l)) octet high.2 in
    record {
      high = high.0;
      low = low.0;
      high_is = digit_is high.0 x (value_ok x i (hex_digit_value x) high.0 high.1);
      low_is = digit_is low.0 y (value_ok y (i + 1) (hex_digit_value y) low.0 low.1);
      octet_is = cc (low.2);
    }

pair_reads : (octet x y i : ℕ) → IsHexPair octet x y → pair_value x y i ≡ Ok octet
pair_reads octet x y i p = rw (digit_reads p.high x p.high_is, digit_reads p.low y p.low_is, p.octet_is) refl

pairs_are : (i : ℕ) (text octets : List ℕ) → decode_pairs i text ≡ Ok octets → AreHexDigits octets text
unfolding decode_pairs
pairs_are i [] [] e = tt
pairs_are i [] (o ∷ octets) e = absurd cc
pairs_are i (x ∷ []) octets e = absurd cc
pairs_are i (x ∷ y ∷ text) octets e =
    let one = bind_ok (pair_value x y i) (λ o. decode_pairs (i + 2) text >>= λ os. Ok (o ∷ os)) octets e in
    let more = bind_ok (decode_pairs (i + 2) text) (λ os. Ok (one.0 ∷ os)) octets one.2 in
    let whole : AreHexDigits (one.0 ∷ more.0) (x ∷ y ∷ text) = (pair_is one.0 x y i one.1, pairs_are (i + 2) text more.0 more.1) in
    let same : one.0 ∷ more.0 ≡ octets = cc (more.2) in
    subst (λ (os : List ℕ). AreHexDigits os (x ∷ y ∷ text)) same whole

pairs_read : (i : ℕ) (text octets : List ℕ) → AreHexDigits octets text → decode_pairs i text ≡ Ok octets
unfolding decode_pairs
pairs_read i [] [] d = refl
pairs_read i [] (o ∷ octets) d = elim d [ ]
pairs_read i (x ∷ []) [] d = elim d [ ]
pairs_read i (x ∷ []) (o ∷ octets) d = elim d [ ]
pairs_read i (x ∷ y ∷ text) [] d = elim d [ ]
pairs_read i (x ∷ y ∷ text) (o ∷ octets) d = rw (pair_reads o x y i d.0, pairs_read (i + 2) text octets d.1) refl

-- there are two hexadecimal digits for each octet
pub two_digits_each : (octets text : List ℕ) → AreHexDigits octets text → length text ≡ 2 * length octets
two_digits_each [] [] d = refl
two_digits_each [] (x ∷ text) d = elim d [ ]
two_digits_each (o ∷ octets) [] d = elim d [ ]
two_digits_each (o ∷ octets) (x ∷ []) d = elim d [ ]
two_digits_each (o ∷ octets) (x ∷ y ∷ text) d = let e = two_digits_each octets text d.1 in omega arith

-- ---- the whole

decoded : (odd : Bool) (r : Result (List ℕ) FromHexError) (octets : List ℕ) → cond odd (Err OddLength) r ≡ Ok octets → r ≡ Ok octets
decoded true r octets e = absurd cc
decoded false r octets e = e

-- a text that is decoded is the digits of the octets
pub digits_are : (text octets : List ℕ) → decode_of text ≡ Ok octets → AreHexDigits octets text
digits_are text octets e = pairs_are 0 text octets (decoded (length text % 2 == 1) (decode_pairs 0 text) octets e)

-- the digits of octets are decoded as them
pub digits_read : (text octets : List ℕ) → AreHexDigits octets text → decode_of text ≡ Ok octets
digits_read text octets d =
    let len = two_digits_each octets text d in
    let even : (length text % 2 == 1) ≡ false = ne_eqb (length text % 2) 1 (λ odd. absurd (omega arith)) in
    rw even (pairs_read 0 text octets d)

-- no octets are encoded by digits that aren't decoded
pub none_encoded : (text : List ℕ) (f : FromHexError) → decode_of text ≡ Err f → (octets : List ℕ) → AreHexDigits octets text → ⊥
none_encoded text f e octets d = let read = digits_read text octets d in absurd cc

-- a word that isn't - is digits
pub word_digits : (octets word : List ℕ) → (word ≡ codes "-" → ⊥) → IsHexWord octets word → AreHexDigits octets word
word_digits [] word some h = absurd (some h)
word_digits (o ∷ octets) word some h = h

-- a word that compares different from - is another word
pub other_word : (word : List ℕ) → false ≡ pointwise nat_eq word (codes "-") → word ≡ codes "-" → ⊥
other_word word e same = false≢true (e ∙ rw same refl)

-- what holds where nothing was found implies what follows from it
pub none_found : {X E : Type 0} {P Q : Type 0} (r : Result (Option X) E) → (P → Q) →
    IfOk r (λ found. IfNone found P) → IfOk r (λ found. IfNone found Q)
none_found (Ok (Some x)) f h = h
none_found (Ok None) f h = f h
none_found (Err e) f h = h
