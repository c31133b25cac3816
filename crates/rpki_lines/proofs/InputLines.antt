-- Which line of an input doesn't fit.
use Rattle.std.specs.List.{AllZip}
use Rattle.std.specs.Prelude.{Bool, IfOk, get_or}
use Rattle.std.proofs.Common.{◌≡◌, ◌≢◌, ◌==◌, ℕ, ◌+◌, ◌⊎◌, inl, inr, true, false, List, [], ◌∷◌, ◌++◌, length, None}
use Rattle.std.proofs.Common.{Result, Ok, Err, refl, sym, ap, subst, ◌∙◌, arith, codes, lit<}
use Rattle.std.proofs.lemmas.Bool.{eqb-true, eq-eqb, false≢true}
use Rattle.std.proofs.lemmas.List.{append-nil, append_assoc}
use Rattle.rpki_der.specs.Times.{Moment}
use Rattle.rpki_path.specs.declared.validating.Leaf.{Leaf}
use Rattle.rpki_path.specs.declared.validating.Leaf.TheVariants.{Ee, DetachedEe}
use Rattle.rpki_lines.specs.declared.input.Input.{Input}
use Rattle.rpki_lines.specs.declared.input.Input.TheVariants.{Bad}
use Rattle.rpki_lines.specs.TextLines.{AreTextLines, line_end}
use Rattle.rpki_lines.specs.InputLines.{at_moment, strictness, anchor, authority, end_entity, IsInputLine, IsRevokedLine}
use Rattle.rpki_lines.specs.InputLines.{IsMomentLine, IsOctetsLine}
use Rattle.rpki_lines.specs.Program.{PathQuestion, Question, is_revoked, is_valid_path, Ask, AreInput, BeginInput}
use Rattle.rpki_lines.specs.Questions.{IsFirstLine, AreReadAs, IsReadBehind}

-- every text has lines
first_octet : (x : ℕ) (text : List ℕ) (ends : Bool) → (x == line_end) ≡ ends → (lines : List (List ℕ)) →
    AreTextLines lines text → (more : List (List ℕ)) × AreTextLines more (x ∷ text)
first_octet x text true e lines are = ([] ∷ lines, (tt, inr (text, cc (eqb-true x line_end e), are)))
first_octet x text false e [] are =
    let other : x ≢ line_end = λ same. false≢true (sym e ∙ eq-eqb x line_end same) in
    ((x ∷ []) ∷ [], ((other, tt), inl (refl, (λ h. cc), ap (λ (l : List ℕ). x ∷ l) are)))
first_octet x text false e (line ∷ lines) are =
    let other : x ≢ line_end = λ same. false≢true (sym e ∙ eq-eqb x line_end same) in (
      (x ∷ line) ∷ lines,
      (
        (other, are.0),
        elim are.1 [
          | inl only ↦ inl (only.0, (λ h. cc), ap (λ (l : List ℕ). x ∷ l) only.2)
          | inr more ↦ inr (more.0, ap (λ (l : List ℕ). x ∷ l) more.1, more.2)
        ],
      ),
    )

-- a text is some lines
pub some_lines : (text : List ℕ) → (lines : List (List ℕ)) × AreTextLines lines text
some_lines [] = ([], refl)
some_lines (x ∷ text) = let more = some_lines text in first_octet x text (x == line_end) refl more.0 more.1

-- ---- the first line of a text, and those behind it

some_there : (line rest : List ℕ) → [] ≡ line ++ line_end ∷ rest → ⊥
some_there [] rest e = absurd cc
some_there (x ∷ line) rest e = absurd cc

no_lines : (lines : List (List ℕ)) → AreTextLines lines [] → lines ≡ []
no_lines [] are = refl
no_lines (line ∷ lines) are =
    absurd (elim are.1 [ inl only ↦ only.1 (sym only.2) | inr more ↦ some_there line more.0 more.1 ])

-- a first line before the lines of the rest is a line more
pub one_more : (line rest text : List ℕ) (lines : List (List ℕ)) → IsFirstLine line rest text → AreTextLines lines rest →
    AreTextLines (line ∷ lines) text
one_more line rest text lines first are = (
  first.0,
  elim first.1 [
    | inl whole ↦ inl (no_lines lines (subst (λ (r : List ℕ). AreTextLines lines r) whole.0 are), whole.1, whole.2)
    | inr e ↦ inr (rest, e, are)
  ],
)

-- what is read behind the first line is read behind those before it
pub behind_line : (before : List (List ℕ)) (line rest text : List ℕ) (input : Input) → IsFirstLine line rest text →
    IsReadBehind (before ++ line ∷ []) rest input → IsReadBehind before text input
behind_line before line rest text input first read = (
  line ∷ read.0,
  one_more line rest text read.0 first read.1,
  subst (λ (lines : List (List ℕ)). AreReadAs input lines) (append_assoc before (line ∷ []) read.0) read.2,
)

module _ (before : List (List ℕ)) (fit : BeginInput before) (number : ℕ) (e : number ≡ length before + 1) (text : List ℕ) where
  -- the first line of the text doesn't fit
  pub bad_line : (line rest : List ℕ) → IsFirstLine line rest text → (BeginInput (before ++ line ∷ []) → ⊥) →
      IsReadBehind before text (Bad number)
  bad_line line rest first unfit =
      let more = some_lines rest in (
        line ∷ more.0,
        one_more line rest text more.0 first more.1,
        record {
          before = before;
          others = line ∷ more.0;
          lines_are = refl;
          number_is = e;
          before_fit =
              fit;
          next_unfit = unfit;
        },
      )

  -- no further line fits, and there is one
  bad_of_lines : (lines : List (List ℕ)) → AreTextLines lines text → (text ≡ [] → ⊥) →
      ((line : List ℕ) → BeginInput (before ++ line ∷ []) → ⊥) → IsReadBehind before text (Bad number)
  bad_of_lines [] are some unfit = absurd (some are)
  bad_of_lines (line ∷ more) are some unfit = (
    line ∷ more,
    are,
    record {
      before = before;
      others = line ∷ more;
      lines_are = refl;
      number_is = e;
      before_fit =
          fit;
      next_unfit = unfit line;
    },
  )

  -- a line with which no input begins is the first that doesn't fit
  pub bad_after : (text ≡ [] → ⊥) → ((line : List ℕ) → BeginInput (before ++ line ∷ []) → ⊥) → IsReadBehind before text (Bad number)
  bad_after = bad_of_lines (some_lines text).0 (some_lines text).1

  -- there is none
  pub line_missing : text ≡ [] → (AreInput before → ⊥) → IsReadBehind before text (Bad number)
  line_missing none unfit = (
    [],
    none,
    record {
      before = before;
      others = [];
      lines_are = refl;
      number_is = e;
      before_fit =
          fit;
      next_unfit = unfit;
    },
  )

-- ---- inputs

head : List ℕ → ℕ
head text = get_or text 0 0

-- a line of a moment is none of a list
not_both : (now : Moment) (list : List ℕ) (serial : ℕ) (line : List ℕ) → IsMomentLine now line → IsRevokedLine list serial line → ⊥
unfolding head
not_both now list serial line m r = let same : 97 ≡ 114 = ap head (sym m.is ∙ r.is) in absurd (omega (arith, same))

-- a line of a CA is none of a leaf
pub other_name : (leaf : Leaf) (octets line : List ℕ) → IsInputLine (end_entity leaf) line → IsInputLine (authority octets) line → ⊥
unfolding head
other_name (Ee o) octets line l a = let same : 101 ≡ 99 = ap head (sym l.is ∙ a.is) in absurd (omega (arith, same))
other_name (DetachedEe o) octets line l a = let same : 100 ≡ 99 = ap head (sym l.is ∙ a.is) in absurd (omega (arith, same))

no_octets : (name : List ℕ) → IsOctetsLine name [] (name ++ codes "-")
no_octets name = record { word = codes "-"; word_is = refl; is = refl }

-- no lines are the beginning of an input
pub nothing_begins : BeginInput []
nothing_begins = (
  codes "revoked - -" ∷ [],
  (
    is_revoked [] 0,
    (
      record {
        list_word = codes "-";
        serial_word = codes "-";
        serial_octets = [];
        list_is = refl;
        octets_are = refl;
        serial_is = refl;
        small = lit< tt;
        is = refl;
      },
      tt,
    ),
  ),
)

-- no lines are no input
pub no_empty_input : AreInput [] → ⊥
no_empty_input a = elim a.0 as (λ (q : Question). Ask q [] → ⊥) [ is_revoked list serial ↦ λ h. h | is_valid_path q ↦ λ h. h ] a.1

-- the lines of an input are the beginning of one
pub whole_begins : (lines : List (List ℕ)) → AreInput lines → BeginInput lines
whole_begins lines a = ([], subst (λ (l : List (List ℕ)). AreInput l) (sym (append-nil lines)) a)

-- ---- the first line

-- the first line of an input is one of a list of revoked certificates or of a moment
pub first_tells : (q : Question) (line : List ℕ) (more : List (List ℕ)) → Ask q (line ∷ more)
    → ((list : List ℕ) × (serial : ℕ) × IsRevokedLine list serial line) ⊎ ((now : Moment) × IsMomentLine now line)
first_tells (is_revoked list serial) line more h = inl (list, serial, h.0)
first_tells (is_valid_path q) line more h = inr (q.now, h.0)

-- a first line of neither form begins no input
pub first_unfit : (line : List ℕ) → ((list : List ℕ) (serial : ℕ) → IsRevokedLine list serial line → ⊥) →
    ((now : Moment) → IsMomentLine now line → ⊥) → BeginInput (line ∷ []) → ⊥
first_unfit line no_list no_moment (more, (q, asked)) =
    elim (first_tells q line more asked) [ inl l ↦ no_list l.0 l.1 l.2 | inr m ↦ no_moment m.0 m.1 ]

-- a list has one line
list_alone : (list : List ℕ) (serial : ℕ) (q : Question) (line next : List ℕ) (more : List (List ℕ)) →
    IsRevokedLine list serial line → Ask q (line ∷ next ∷ more) → ⊥
list_alone list serial (is_revoked list' serial') line next more is h = h.1
list_alone list serial (is_valid_path q) line next more is h = not_both q.now list serial line h.0 is

module _ (list : List ℕ) (serial : ℕ) (line : List ℕ) (is : IsRevokedLine list serial line) where
  -- the line of a list of revoked certificates begins an input
  pub list_begins : BeginInput (line ∷ [])
  list_begins = whole_begins (line ∷ []) (is_revoked list serial, (is, tt))

  -- no second line follows that of a list
  pub second_of_list : (next : List ℕ) → BeginInput ((line ∷ []) ++ next ∷ []) → ⊥
  second_of_list next (more, (q, asked)) = list_alone list serial q line next more is asked

-- ---- the second line

-- a question of a moment, before its other lines are known
abbrev short_path : Moment → Bool → List ℕ → PathQuestion
short_path now strict octets = record { now = now; strict = strict; anchor_octets = octets; authorities = []; leaf = None }

second_tells : (q : Question) (m line : List ℕ) (more : List (List ℕ)) → Ask q (m ∷ line ∷ more) →
    (strict : Bool) × IsInputLine (strictness strict) line
second_tells (is_revoked list serial) m line more h = absurd h.1
second_tells (is_valid_path q) m line more h = (q.strict, h.1.0)

moment_not_alone : (now : Moment) (q : Question) (m : List ℕ) → IsMomentLine now m → Ask q (m ∷ []) → ⊥
moment_not_alone now (is_revoked list serial) m is h = not_both now list serial m is h.0
moment_not_alone now (is_valid_path q) m is h = h.1

abbrev Moments : Moment → List (List ℕ) → Type 0
Moments now before = AllZip IsInputLine (at_moment now ∷ []) before

module _ (now : Moment) where
  moment_begins : (before : List (List ℕ)) → Moments now before → BeginInput before
  moment_begins [] is = elim is [ ]
  moment_begins (m ∷ []) is = (
    codes "strict" ∷ codes "ta -" ∷ [],
    (is_valid_path (short_path now true []), (is.0, (refl, (no_octets (codes "ta "), tt)))),
  )
  moment_begins (m ∷ s ∷ more) is = elim is.1 [ ]

  one_so_far : (before : List (List ℕ)) → Moments now before → 2 ≡ length before + 1
  one_so_far [] is = elim is [ ]
  one_so_far (m ∷ []) is = refl
  one_so_far (m ∷ s ∷ more) is = elim is.1 [ ]

  second_unfit : (before : List (List ℕ)) → Moments now before → (line : List ℕ) →
      ((strict : Bool) → IsInputLine (strictness strict) line → ⊥) → BeginInput (before ++ line ∷ []) → ⊥
  second_unfit [] is line none b = elim is [ ]
  second_unfit (m ∷ []) is line none (more, (q, asked)) = let (strict, tells) = second_tells q m line more asked in none strict tells
  second_unfit (m ∷ s ∷ more) is line none b = elim is.1 [ ]

  second_needed : (before : List (List ℕ)) → Moments now before → AreInput before → ⊥
  second_needed [] is a = elim is [ ]
  second_needed (m ∷ []) is a = moment_not_alone now a.0 m is.0 a.1
  second_needed (m ∷ s ∷ more) is a = elim is.1 [ ]

  module _ (before : List (List ℕ)) (is : Moments now before) (text : List ℕ) where
    -- where the text ends, the second line is missing
    pub no_second : text ≡ [] → IsReadBehind before text (Bad 2)
    no_second none = line_missing before (moment_begins before is) 2 (one_so_far before is) text none (second_needed before is)

    -- a second line that tells no mode doesn't fit
    pub bad_second : (line rest : List ℕ) → IsFirstLine line rest text →
        ((strict : Bool) → IsInputLine (strictness strict) line → ⊥) → IsReadBehind before text (Bad 2)
    bad_second line rest first none = bad_line before (moment_begins before is) 2 (one_so_far before is) text line
        rest first (second_unfit before is line none)

-- ---- the third line

third_tells : (q : Question) (m s line : List ℕ) (more : List (List ℕ)) → Ask q (m ∷ s ∷ line ∷ more) →
    (octets : List ℕ) × IsInputLine (anchor octets) line
third_tells (is_revoked list serial) m s line more h = absurd h.1
third_tells (is_valid_path q) m s line more (_, (_, (tells, _))) = (q.anchor_octets, tells)

two_are_few : (q : Question) (m s : List ℕ) → Ask q (m ∷ s ∷ []) → ⊥
two_are_few (is_revoked list serial) m s h = h.1
two_are_few (is_valid_path q) m s (_, (_, none)) = none

abbrev Pairs : Moment → Bool → List (List ℕ) → Type 0
Pairs now strict before = AllZip IsInputLine (at_moment now ∷ strictness strict ∷ []) before

module _ (now : Moment) (strict : Bool) where
  pair_begins : (before : List (List ℕ)) → Pairs now strict before → BeginInput before
  pair_begins [] is = elim is [ ]
  pair_begins (m ∷ []) is = elim is.1 [ ]
  pair_begins (m ∷ s ∷ []) is = (
    codes "ta -" ∷ [],
    (is_valid_path (short_path now strict []), (is.0, (is.1.0, (no_octets (codes "ta "), tt)))),
  )
  pair_begins (m ∷ s ∷ t ∷ more) (_, (_, none)) = elim none [ ]

  two_so_far : (before : List (List ℕ)) → Pairs now strict before → 3 ≡ length before + 1
  two_so_far [] is = elim is [ ]
  two_so_far (m ∷ []) is = elim is.1 [ ]
  two_so_far (m ∷ s ∷ []) is = refl
  two_so_far (m ∷ s ∷ t ∷ more) (_, (_, none)) = elim none [ ]

  third_unfit : (before : List (List ℕ)) → Pairs now strict before → (line : List ℕ) →
      ((octets : List ℕ) → IsInputLine (anchor octets) line → ⊥) → BeginInput (before ++ line ∷ []) → ⊥
  third_unfit [] is line none b = elim is [ ]
  third_unfit (m ∷ []) is line none b = elim is.1 [ ]
  third_unfit (m ∷ s ∷ []) is line none (more, (q, asked)) = let (octets, tells) = third_tells q m s line more asked in none octets tells
  third_unfit (m ∷ s ∷ t ∷ more) (_, (_, excess)) line none b = elim excess [ ]

  third_needed : (before : List (List ℕ)) → Pairs now strict before → AreInput before → ⊥
  third_needed [] is a = elim is [ ]
  third_needed (m ∷ []) is a = elim is.1 [ ]
  third_needed (m ∷ s ∷ []) is a = two_are_few a.0 m s a.1
  third_needed (m ∷ s ∷ t ∷ more) (_, (_, none)) a = elim none [ ]

  module _ (before : List (List ℕ)) (is : Pairs now strict before) (text : List ℕ) where
    -- where the text ends, the third line is missing
    pub no_third : text ≡ [] → IsReadBehind before text (Bad 3)
    no_third none = line_missing before (pair_begins before is) 3 (two_so_far before is) text none (third_needed before is)

    -- a third line that tells no trust anchor doesn't fit
    pub bad_third : (line rest : List ℕ) → IsFirstLine line rest text →
        ((octets : List ℕ) → IsInputLine (anchor octets) line → ⊥) → IsReadBehind before text (Bad 3)
    bad_third line rest first none = bad_line before (pair_begins before is) 3 (two_so_far before is) text line rest
        first (third_unfit before is line none)

-- ---- what holds of an answer

-- what an Ok has may be weakened
pub if_ok : {X E : Type 0} {P Q : X → Type 0} (r : Result X E) → ((x : X) → P x → Q x) → IfOk r P → IfOk r Q
if_ok (Ok x) f h = f x h
if_ok (Err e) f h = h

-- a list whose length isn't 0 isn't empty
pub some_left : (xs : List ℕ) → false ≡ (length xs == 0) → xs ≡ [] → ⊥
some_left xs e none = false≢true (e ∙ rw none refl)

no_length : (xs : List ℕ) → length xs ≡ 0 → xs ≡ []
no_length [] e = refl
no_length (x ∷ xs) e = absurd (omega arith)

-- a list whose length is 0 is empty
pub none_left : (xs : List ℕ) → true ≡ (length xs == 0) → xs ≡ []
none_left xs e = no_length xs (eqb-true (length xs) 0 (sym e))
