-- The text of a document is that of its lines, which say visible characters alone; and no two lists
-- of such lines have one text.
use Rattle.std.specs.List.{AllByRecursion, flat_map}
use Rattle.std.specs.Fmt.{decimal}
use Rattle.std.specs.Prelude.{IsTrue, not, Bool, true, false, if◌then◌else◌}
use Rattle.std.proofs.Common.{◌≡◌, ◌∙◌, ◌≢◌, ℕ, zero, suc, ◌+◌, ◌-◌, ◌^◌, ◌/◌, ◌%◌, ◌<◌, List, [], ◌∷◌, ◌++◌, length}
use Rattle.std.proofs.Common.{replicate, refl, sym, ap, append_assoc, arith}
use Rattle.std.proofs.lemmas.Bool.{and_parts}
use Rattle.std.proofs.lemmas.Bool.Decides.{nat_tests}
use Rattle.std.proofs.lemmas.Fmt.{decimal_by_steps}
use Rattle.std.proofs.lemmas.List.{append-nil, append_cancel_left}
use Rattle.std.proofs.lemmas.Grind.{flat_map-append}
use Rattle.rpki_document.specs.Documents.{ToldValue, text, inner, printed, characters, words, count, octets, flag, dated}
use Rattle.rpki_document.specs.Documents.{Span, say, tell, show, keep, Node, head, line, further, unsaid, inside}
use Rattle.rpki_document.specs.Documents.{each, aside, Document, nothing, part, told_text, span_text, spans_text}
use Rattle.rpki_document.specs.Documents.{node_text, document_text}
use Rattle.rpki_document.specs.Texts.{AreVisible, IsUnseparated, is_visible, stands, separates, escapes, escaped, digit}
use Rattle.rpki_document.specs.Texts.{two_digits, colons_text, character_text, escaped_text, inner_text, flag_text}
use Rattle.rpki_document.specs.Texts.{pad, further_margin, line_feed}
use Rattle.rpki_document.specs.declared.leaves.Escape.{Escape}
use Rattle.rpki_document.specs.declared.leaves.Escape.TheVariants.{Text, Inner, Printed}
use Rattle.rpki_document.specs.Lines.{Row, labelled, under, row_text, node_rows, document_rows, AreOctets}
use Rattle.rpki_document.specs.Lines.{BeginsPlain, IsToldValue, IsSpan, IsNode, IsMade, IsRow}

-- ---- visible texts

both_visible : (a b : List ℕ) → AreVisible a → AreVisible b → AreVisible (a ++ b)
both_visible [] b p q = q
both_visible (o ∷ a) b p q = (p.0, both_visible a b p.1 q)

digit_is_visible : (n : ℕ) → n < 16 → IsTrue (is_visible (digit n))
digit_is_visible n small = grind (arith, nat_tests)

two_visible : (o : ℕ) → o < 256 → AreVisible (two_digits o)
two_visible o small = (digit_is_visible (o / 16) (omega arith), (digit_is_visible (o % 16) (omega arith), tt))

escaped_visible : (o : ℕ) → o < 256 → AreVisible (escaped o)
escaped_visible o small = (refl, (refl, two_visible o small))

-- the text of an octet, by whether it stands for itself
abbrev pub text_by : Bool → ℕ → List ℕ
text_by plain o = if plain then o ∷ [] else escaped o

visible_by : (plain : Bool) (o : ℕ) → (plain ≡ true → IsTrue (is_visible o)) → o < 256 → AreVisible (text_by plain o)
visible_by true o is small = (is refl, tt)
visible_by false o is small = escaped_visible o small

stands_visible : (escape : Escape) (o : ℕ) → stands escape o ≡ true → IsTrue (is_visible o)
stands_visible escape o e = (and_parts (is_visible o) (not (escapes escape o)) e).0

-- octets are visible as a text
pub text_visible : (escape : Escape) (os : List ℕ) → AreOctets os → AreVisible (escaped_text escape os)
text_visible escape [] are = tt
text_visible escape (o ∷ os) are =
    both_visible (character_text escape o) (escaped_text escape os)
    (visible_by (stands escape o) o (stands_visible escape o) are.0) (text_visible escape os are.1)

further_visible : (os : List ℕ) → AreOctets os → AreVisible (flat_map (λ more. 58 ∷ two_digits more) os)
further_visible [] are = tt
further_visible (o ∷ os) are =
    both_visible (58 ∷ two_digits o) _ (refl, two_visible o are.0) (further_visible os are.1)

colons_visible : (os : List ℕ) → AreOctets os → AreVisible (colons_text os)
colons_visible [] are = tt
colons_visible (o ∷ os) are = both_visible (two_digits o) _ (two_visible o are.0) (further_visible os are.1)

ten_visible : (n : ℕ) → n < 10 → IsTrue (is_visible (48 + n))
ten_visible n small = grind (arith, nat_tests)

decimal_visible : (n : ℕ) → n < 2 ^ 64 → AreVisible (decimal n)
decimal_visible =
    decimal_by_steps (λ (n : ℕ) (ds : List ℕ). AreVisible ds) (λ n small. (ten_visible n small, tt))
    (λ n ds large so_far. both_visible ds ((48 + n % 10) ∷ []) so_far (ten_visible (n % 10) (omega arith), tt))

flag_visible : (is_so : Bool) → AreVisible (flag_text is_so)
flag_visible true = (refl, (refl, (refl, tt)))
flag_visible false = (refl, (refl, tt))

told_visible : (told : ToldValue) → IsToldValue told → AreVisible (told_text told)
told_visible (text t) is = text_visible Text t is
told_visible (inner t) is = text_visible Inner t is
told_visible (printed t) is = text_visible Printed t is
told_visible (characters os) is = text_visible Text os is
told_visible (words said word) is = text_visible Text said is
told_visible (count n) is = decimal_visible n is
told_visible (octets os) is = colons_visible os is
told_visible (flag is_so) is = flag_visible is_so
told_visible (dated said n) is = text_visible Text said is

span_visible : (s : Span) → IsSpan s → AreVisible (span_text s)
span_visible (say said) is = text_visible Text said is
span_visible (tell key told) is = told_visible told is
span_visible (show told) is = told_visible told is
span_visible (keep key told) is = tt

spans_visible : (spans : List Span) → AllByRecursion IsSpan spans → AreVisible (spans_text spans)
spans_visible [] are = tt
spans_visible (s ∷ spans) are =
    both_visible (span_text s) (spans_text spans) (span_visible s are.0) (spans_visible spans are.1)

spaces_visible : (n : ℕ) → AreVisible (replicate n 32)
spaces_visible zero = tt
spaces_visible (suc n) = (refl, spaces_visible n)

-- ---- separators

both_unseparated : (a b : List ℕ) → IsUnseparated a → IsUnseparated b → IsUnseparated (a ++ b)
both_unseparated [] b p q = q
both_unseparated (o ∷ a) b p q = (p.0, both_unseparated a b p.1 q)

digit_separates_nothing : (n : ℕ) → n < 16 → IsTrue (not (separates (digit n)))
digit_separates_nothing n small = grind (arith, nat_tests)

unseparated_by : (plain : Bool) (o : ℕ) → (plain ≡ true → IsTrue (not (separates o))) → o < 256 → IsUnseparated (text_by plain o)
unseparated_by true o is small = (is refl, tt)
unseparated_by false o is small =
    (refl, (refl, (digit_separates_nothing (o / 16) (omega arith), (digit_separates_nothing (o % 16) (omega arith), tt))))

-- what stands for itself there is no separator
pub inner_separates_nothing : (o : ℕ) → stands Inner o ≡ true → IsTrue (not (separates o))
inner_separates_nothing o e = grind (arith, nat_tests)

-- a text behind which more follows in its line has no separator
pub inner_unseparated : (os : List ℕ) → AreOctets os → IsUnseparated (inner_text os)
inner_unseparated [] are = tt
inner_unseparated (o ∷ os) are =
    both_unseparated (character_text Inner o) (inner_text os)
    (unseparated_by (stands Inner o) o (inner_separates_nothing o) are.0)
    (inner_unseparated os are.1)

-- ---- the lines

both_rows : (a b : List Row) → AllByRecursion IsRow a → AllByRecursion IsRow b → AllByRecursion IsRow (a ++ b)
both_rows [] b p q = q
both_rows (r ∷ a) b p q = (p.0, both_rows a b p.1 q)

mutual
  node_rows_are : (p : Node) → IsNode p → AllByRecursion IsRow (node_rows p)
  node_rows_are (head label spans) is = ((is.0, (refl, spans_visible spans is.1)), tt)
  node_rows_are (line label spans) is =
      ((is.0, both_visible (pad label) (spans_text spans) (spaces_visible (25 - length label)) (spans_visible spans is.1)), tt)
  node_rows_are (further spans) is = (spans_visible spans is, tt)
  node_rows_are (unsaid spans) is = tt
  node_rows_are (inside key d) is = rows_are d is
  node_rows_are (each key d) is = rows_are d is
  node_rows_are (aside d) is = tt

  -- each line of a document has a label and says visible characters alone
  pub rows_are : (d : Document) → IsMade d → AllByRecursion IsRow (document_rows d)
  rows_are nothing is = tt
  rows_are (part p d) is = both_rows (node_rows p) (document_rows d) (node_rows_are p is.0) (rows_are d is.1)

one_line : (label behind said : List ℕ) → (label ++ (58 ∷ behind)) ++ (said ++ line_feed) ≡ label ++ (58 ∷ ((behind ++ said) ++ line_feed))
one_line label behind said = simp append_assoc

mutual
  node_text_is : (p : Node) → node_text p ≡ flat_map row_text (node_rows p)
  node_text_is (head label spans) = one_line label (32 ∷ []) (spans_text spans) ∙ sym (append-nil _)
  node_text_is (line label spans) = one_line label (pad label) (spans_text spans) ∙ sym (append-nil _)
  node_text_is (further spans) = sym (append-nil _)
  node_text_is (unsaid spans) = refl
  node_text_is (inside key d) = text_is d
  node_text_is (each key d) = text_is d
  node_text_is (aside d) = refl

  -- the text of a document is that of its lines
  pub text_is : (d : Document) → document_text d ≡ flat_map row_text (document_rows d)
  text_is nothing = refl
  text_is (part p d) =
      ap (λ (t : List ℕ). t ++ document_text d) (node_text_is p)
      ∙ ap (λ (t : List ℕ). flat_map row_text (node_rows p) ++ t) (text_is d)
      ∙ sym (flat_map-append row_text (node_rows p) (document_rows d))

-- ---- equal texts

abbrev Lacks : ℕ → List ℕ → Type 0
Lacks stop os = AllByRecursion (λ o. o ≢ stop) os

not_an_end : (o : ℕ) → IsTrue (is_visible o) → o ≢ 10
not_an_end o v e = grind (arith, nat_tests)

without_ends : (os : List ℕ) → AreVisible os → Lacks 10 os
without_ends [] are = tt
without_ends (o ∷ os) are = (not_an_end o are.0, without_ends os are.1)

-- texts up to the same octet, that they lack, are equal, and so is what follows
cut : (stop : ℕ) (a b s t : List ℕ) → Lacks stop a → Lacks stop b → a ++ stop ∷ s ≡ b ++ stop ∷ t → (a ≡ b) × (s ≡ t)
cut stop [] [] s t p q e = (refl, cc)
cut stop [] (y ∷ b) s t p q e = let same : y ≡ stop = cc in absurd (q.0 same)
cut stop (x ∷ a) [] s t p q e = let same : x ≡ stop = cc in absurd (p.0 same)
cut stop (x ∷ a) (y ∷ b) s t p q e =
    let first : x ≡ y = cc in
    let rest : a ++ stop ∷ s ≡ b ++ stop ∷ t = cc in
    let more = cut stop a b s t p.1 q.1 rest in
    (cc (first, more.0), more.1)

labelled_shape : (label behind x : List ℕ) → row_text (labelled label behind) ++ x ≡ label ++ 58 ∷ (behind ++ 10 ∷ x)
labelled_shape label behind x = simp append_assoc

under_shape : (said x : List ℕ) → row_text (under said) ++ x ≡ further_margin ++ (said ++ 10 ∷ x)
under_shape said x = simp append_assoc

said_same : (s t x y : List ℕ) → AreVisible s → AreVisible t → s ++ 10 ∷ x ≡ t ++ 10 ∷ y → (s ≡ t) × (x ≡ y)
said_same s t x y p q e = cut 10 s t x y (without_ends s p) (without_ends t q) e

both_labelled : (l m s t x y : List ℕ) → IsRow (labelled l s) → IsRow (labelled m t)
    → row_text (labelled l s) ++ x ≡ row_text (labelled m t) ++ y → (labelled l s ≡ labelled m t) × (x ≡ y)
both_labelled l m s t x y p q e =
    let shaped : l ++ 58 ∷ (s ++ 10 ∷ x) ≡ m ++ 58 ∷ (t ++ 10 ∷ y) =
    sym (labelled_shape l s x) ∙ e ∙ labelled_shape m t y in
    let labels = cut 58 l m _ _ p.0.1 q.0.1 shaped in
    let said = said_same s t x y p.1 q.1 labels.1 in
    (ap (λ (k : List ℕ). labelled k s) labels.0 ∙ ap (λ (k : List ℕ). labelled m k) said.0, said.1)

both_under : (s t x y : List ℕ) → AreVisible s → AreVisible t
    → row_text (under s) ++ x ≡ row_text (under t) ++ y → (under s ≡ under t) × (x ≡ y)
both_under s t x y p q e =
    let shaped : further_margin ++ (s ++ 10 ∷ x) ≡ further_margin ++ (t ++ 10 ∷ y) =
    sym (under_shape s x) ∙ e ∙ under_shape t y in
    let said = said_same s t x y p q (append_cancel_left further_margin _ _ shaped) in
    (ap (λ (k : List ℕ). under k) said.0, said.1)

differ : (o p : ℕ) (a b : List ℕ) → o ≢ p → o ∷ a ≡ p ∷ b → ⊥
differ o p a b apart e = let same : o ≡ p = cc in apart same

colon_is_no_space : (o : ℕ) → o ≡ 58 → o ≡ 32 → ⊥
colon_is_no_space o p q = omega arith

-- a line with a label doesn't begin as one under a label does
unlike : (l s t x y : List ℕ) → BeginsPlain l → row_text (labelled l s) ++ x ≡ row_text (under t) ++ y → ⊥
unlike [] s t x y p e = differ 58 32 _ _ (colon_is_no_space 58 refl) e
unlike (o ∷ l) s t x y p e = differ o 32 _ _ p e

some_row : (r : Row) (x : List ℕ) → [] ≡ row_text r ++ x → ⊥
some_row (labelled [] s) x e = cc
some_row (labelled (o ∷ l) s) x e = cc
some_row (under s) x e = cc

same_first : (r q : Row) (x y : List ℕ) → IsRow r → IsRow q → row_text r ++ x ≡ row_text q ++ y → (r ≡ q) × (x ≡ y)
same_first (labelled l s) (labelled m t) x y a b e = both_labelled l m s t x y a b e
same_first (labelled l s) (under t) x y a b e = absurd (unlike l s t x y a.0.0 e)
same_first (under s) (labelled m t) x y a b e = absurd (unlike m t s y x b.0.0 (sym e))
same_first (under s) (under t) x y a b e = both_under s t x y a b e

same_rows : (a b : List Row) → AllByRecursion IsRow a → AllByRecursion IsRow b → flat_map row_text a ≡ flat_map row_text b → a ≡ b
same_rows [] [] p q e = refl
same_rows [] (r ∷ b) p q e = absurd (some_row r _ e)
same_rows (r ∷ a) [] p q e = absurd (some_row r _ (sym e))
same_rows (r ∷ a) (k ∷ b) p q e =
    let first = same_first r k (flat_map row_text a) (flat_map row_text b) p.0 q.0 e in
    let rest = same_rows a b p.1 q.1 first.1 in
    cc (first.0, rest)

-- documents of one text say the same lines
pub same_lines : (d e : Document) → IsMade d → IsMade e → document_text d ≡ document_text e → document_rows d ≡ document_rows e
same_lines d e p q same =
    same_rows (document_rows d) (document_rows e) (rows_are d p) (rows_are e q) (sym (text_is d) ∙ same ∙ text_is e)
