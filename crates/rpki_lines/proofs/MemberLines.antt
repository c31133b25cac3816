-- The lines of the strings below a trust anchor.
use Rattle.std.specs.List.{AllZip}
use Rattle.std.specs.Prelude.{Bool}
use Rattle.std.proofs.Common.{◌≡◌, ℕ, ◌+◌, List, [], ◌∷◌, ◌++◌, length, map, Option, Some, None, refl, sym, ap, subst, ◌∙◌, arith, codes}
use Rattle.std.proofs.lemmas.List.{append-nil, append_assoc, length-append, map_push}
use Rattle.rpki_der.specs.Times.{Moment}
use Rattle.rpki_path.specs.declared.validating.Leaf.{Leaf}
use Rattle.rpki_path.specs.declared.validating.Leaf.TheVariants.{Ee, DetachedEe}
use Rattle.rpki_lines.specs.declared.path_lines.Member.{Member}
use Rattle.rpki_lines.specs.declared.path_lines.Member.TheVariants.{Authority, Last}
use Rattle.rpki_lines.specs.declared.input.Input.TheVariants.{Bad}
use Rattle.rpki_lines.specs.declared.input.Input.TheVariants as input
use Rattle.rpki_lines.specs.declared.path_lines.PathQuestion as declared
use Rattle.rpki_lines.specs.TextLines.{AreTextLines}
use Rattle.rpki_lines.specs.InputLines.{InputLine, at_moment, strictness, anchor, authority, end_entity, IsInputLine, IsOctetsLine}
use Rattle.rpki_lines.specs.Program.{PathQuestion, Question, is_revoked, is_valid_path, leaf_lines, Ask, BeginInput, IsBadLine}
use Rattle.rpki_lines.specs.Questions.{IsFirstLine, member_line, path_question, IsReadBehind}
use Rattle.rpki_lines.proofs.InputLines.{other_name, whole_begins, one_more, bad_line, bad_after}
use Rattle.rpki_path.proofs.LongerPaths.{zip_more}

-- ---- lists side by side

module _ {A B : Type 0} (R : A → B → Type 0) where
  zip_both : (xs : List A) (ys : List B) (us : List A) (vs : List B) → AllZip R xs ys → AllZip R us vs → AllZip R (xs ++ us) (ys ++ vs)
  zip_both [] [] us vs p q = q
  zip_both [] (y ∷ ys) us vs p q = absurd p
  zip_both (x ∷ xs) [] us vs p q = absurd p
  zip_both (x ∷ xs) (y ∷ ys) us vs p q = (p.0, zip_both xs ys us vs p.1 q)

  none_behind : (before : List B) (y : B) (more : List B) → AllZip R [] (before ++ y ∷ more) → ⊥
  none_behind [] y more h = h
  none_behind (b ∷ before) y more h = h

as_many : (cas : List (List ℕ)) (lines : List (List ℕ)) → AllZip IsInputLine (map authority cas) lines → length cas ≡ length lines
as_many [] [] is = refl
as_many [] (line ∷ lines) is = absurd is
as_many (c ∷ cas) [] is = absurd is
as_many (c ∷ cas) (line ∷ lines) is = let rest = as_many cas lines is.1 in omega (arith, rest)

-- a line that is no line of a CA nor of a leaf
pub no_member : (line : List ℕ) → ((octets : List ℕ) → IsOctetsLine (codes "ca ") octets line → ⊥) →
    ((octets : List ℕ) → IsOctetsLine (codes "ee ") octets line → ⊥) →
    ((octets : List ℕ) → IsOctetsLine (codes "detached ") octets line → ⊥) → (member : Member) →
    IsInputLine (member_line member) line → ⊥
no_member line ca ee detached (Authority octets) h = ca octets h
no_member line ca ee detached (Last (Ee octets)) h = ee octets h
no_member line ca ee detached (Last (DetachedEe octets)) h = detached octets h

-- ---- what stands there tells of a member, and nothing follows a leaf

member_tells : (cas : List (List ℕ)) (leaf : Option Leaf) (before : List (List ℕ)) (line : List ℕ)
    (more : List (List ℕ)) → AllZip IsInputLine (map authority cas ++ leaf_lines leaf) (before ++ line ∷ more) →
    (member : Member) × IsInputLine (member_line member) line
member_tells [] None [] line more h = absurd h
member_tells [] (Some leaf) [] line more h = (Last leaf, h.0)
member_tells (c ∷ cas) leaf [] line more h = (Authority c, h.0)
member_tells [] None (b ∷ before) line more h = absurd h
member_tells [] (Some leaf) (b ∷ before) line more h = absurd (none_behind IsInputLine before line more h.1)
member_tells (c ∷ cas) leaf (b ∷ before) line more h = member_tells cas leaf before line more h.1

leaf_is_last : (leaf : Leaf) (e line : List ℕ) → IsInputLine (end_entity leaf) e →
    (cas : List (List ℕ)) (other : Option Leaf) (before : List (List ℕ)) (more : List (List ℕ)) →
    AllZip IsInputLine (map authority cas ++ leaf_lines other) (before ++ e ∷ line ∷ more) → ⊥
leaf_is_last leaf e line is [] None [] more h = h
leaf_is_last leaf e line is [] (Some other) [] more h = h.1
leaf_is_last leaf e line is (c ∷ cas) other [] more h = other_name leaf c e is h.0
leaf_is_last leaf e line is [] None (b ∷ before) more h = h
leaf_is_last leaf e line is [] (Some other) (b ∷ before) more h = none_behind IsInputLine before e (line ∷ more) h.1
leaf_is_last leaf e line is (c ∷ cas) other (b ∷ before) more h = leaf_is_last leaf e line is cas other before more h.1

-- the lines before the members tell the moment, the mode and the trust anchor
abbrev pub Heads : Moment → Bool → List ℕ → List (List ℕ) → Type 0
Heads now strict octets before = AllZip IsInputLine (at_moment now ∷ strictness strict ∷ anchor octets ∷ []) before

below_tells : (q : Question) (m s t : List ℕ) (lines : List (List ℕ)) → Ask q (m ∷ s ∷ t ∷ lines) →
    (cas : List (List ℕ)) × (leaf : Option Leaf) × AllZip IsInputLine (map authority cas ++ leaf_lines leaf) lines
below_tells (is_revoked list serial) m s t lines h = absurd h.1
below_tells (is_valid_path q) m s t lines (_, (_, (_, below))) = (q.authorities, q.leaf, below)

module _ (now : Moment) (strict : Bool) (octets : List ℕ) where
  tells_below : (before : List (List ℕ)) → Heads now strict octets before → (q : Question) (lines : List (List ℕ)) →
      Ask q (before ++ lines) →
      (cas : List (List ℕ)) × (leaf : Option Leaf) × AllZip IsInputLine (map authority cas ++ leaf_lines leaf) lines
  tells_below [] is q lines h = elim is [ ]
  tells_below (m ∷ []) is q lines h = elim is.1 [ ]
  tells_below (m ∷ s ∷ []) (_, (_, none)) q lines h = elim none [ ]
  tells_below (m ∷ s ∷ t ∷ []) is q lines h = below_tells q m s t lines h
  tells_below (m ∷ s ∷ t ∷ u ∷ more) (_, (_, (_, none))) q lines h = elim none [ ]

  three_so_far : (before : List (List ℕ)) → Heads now strict octets before → length before ≡ 3
  three_so_far [] is = elim is [ ]
  three_so_far (m ∷ []) is = elim is.1 [ ]
  three_so_far (m ∷ s ∷ []) (_, (_, none)) = elim none [ ]
  three_so_far (m ∷ s ∷ t ∷ []) is = refl
  three_so_far (m ∷ s ∷ t ∷ u ∷ more) (_, (_, (_, none))) = elim none [ ]

  -- the question of these CAs and this leaf
  abbrev pub question : List (List ℕ) → Option Leaf → PathQuestion
  question cas leaf = record { now = now; strict = strict; anchor_octets = octets; authorities = cas; leaf = leaf }

  module _ (before : List (List ℕ)) (is : Heads now strict octets before) (cas : List (List ℕ))
      (lines : List (List ℕ)) (encoded : AllZip IsInputLine (map authority cas) lines) where
    -- the lines so far ask of these strings
    pub asks : (leaf : Option Leaf) (last_lines : List (List ℕ)) → AllZip IsInputLine (leaf_lines leaf) last_lines →
        Ask (is_valid_path (question cas leaf)) (before ++ (lines ++ last_lines))
    asks leaf last_lines h =
        zip_both IsInputLine (at_moment now ∷ strictness strict ∷ anchor octets ∷ []) before
        (map authority cas ++ leaf_lines leaf) (lines ++ last_lines) is
        (zip_both IsInputLine (map authority cas) lines (leaf_lines leaf) last_lines encoded h)

    asks_so_far : Ask (is_valid_path (question cas None)) (before ++ lines)
    asks_so_far = subst (λ (l : List (List ℕ)). Ask (is_valid_path (question cas None)) (before ++ l)) (append-nil lines) (asks None [] tt)

    -- ---- a line that tells of no member

    members_unfit : (line : List ℕ) → ((member : Member) → IsInputLine (member_line member) line → ⊥) →
        BeginInput ((before ++ lines) ++ line ∷ []) → ⊥
    members_unfit line none (more, (q, asked)) =
        let parts : ((before ++ lines) ++ line ∷ []) ++ more ≡ before ++ (lines ++ line ∷ more) =
        append_assoc (before ++ lines) (line ∷ []) more ∙ append_assoc before lines (line ∷ more) in
        let (others, leaf, below) = tells_below before is q (lines ++ line ∷ more) (subst (λ (l : List (List ℕ)). Ask q l) parts asked) in
        let (member, tells) = member_tells others leaf lines line more below in
        none member tells

    module _ (text rest : List ℕ) (so_far : (more : List (List ℕ)) → AreTextLines more rest → AreTextLines (lines ++ more) text) where
      -- what is read behind the lines so far
      regrouped : (number : ℕ) → IsReadBehind (before ++ lines) rest (Bad number) → IsReadBehind before text (Bad number)
      regrouped number read = (
        lines ++ read.0,
        so_far read.0 read.1,
        subst (λ (l : List (List ℕ)). IsBadLine number l) (append_assoc before lines read.0) read.2,
      )

      count : length cas + 4 ≡ length (before ++ lines) + 1
      count = omega (arith, length-append before lines, three_so_far before is, as_many cas lines encoded)

      -- a line that tells of no member doesn't fit
      pub bad_member : (line others : List ℕ) → IsFirstLine line others rest →
          ((member : Member) → IsInputLine (member_line member) line → ⊥) →
          IsReadBehind before text (Bad (length cas + 4))
      bad_member line others first none =
          regrouped (length cas + 4)
          (bad_line (before ++ lines)
          (whole_begins (before ++ lines) (is_valid_path (question cas None), asks_so_far)) (length cas + 4)
          count rest line others first (members_unfit line none))

      -- no further line: the path ends with a CA, or the trust anchor
      pub ended : (q : declared.PathQuestion) → path_question q ≡ question cas None → rest ≡ [] → IsReadBehind before text (input.Path q)
      ended q same none = (
        lines ++ [],
        so_far [] none,
        subst (λ (p : PathQuestion). Ask (is_valid_path p) (before ++ (lines ++ []))) (sym same) (asks None [] tt),
      )

      module _ (leaf : Leaf) (line others : List ℕ) (first : IsFirstLine line others rest)
          (tells : IsInputLine (end_entity leaf) line) where
        -- nor a further line behind that of a leaf
        pub ended_by_leaf : (q : declared.PathQuestion) → path_question q ≡ question cas (Some leaf) → others ≡ [] →
            IsReadBehind before text (input.Path q)
        ended_by_leaf q same none = (
          lines ++ line ∷ [],
          so_far (line ∷ []) (one_more line others rest [] first none),
          subst (λ (p : PathQuestion). Ask (is_valid_path p) (before ++ (lines ++ line ∷ []))) (sym same)
              (asks (Some leaf) (line ∷ []) (tells, tt)),
        )

        nothing_follows : (next : List ℕ) → BeginInput ((before ++ (lines ++ line ∷ [])) ++ next ∷ []) → ⊥
        nothing_follows next (more, (q, asked)) =
            let parts : ((before ++ (lines ++ line ∷ [])) ++ next ∷ []) ++ more ≡ before ++ (lines ++ line ∷ next ∷ more) =
            append_assoc (before ++ (lines ++ line ∷ [])) (next ∷ []) more ∙ append_assoc before (lines ++ line ∷ [])
            (next ∷ more) ∙ ap (λ (l : List (List ℕ)). before ++ l)
            (append_assoc lines (line ∷ []) (next ∷ more)) in
            let (others, other, below) = tells_below before is q (lines ++ line ∷ next ∷ more)
            (subst (λ (l : List (List ℕ)). Ask q l) parts asked) in
            leaf_is_last leaf line next tells others other lines more below

        -- a line behind that of a leaf doesn't fit
        pub line_after_leaf : (others ≡ [] → ⊥) → IsReadBehind before text (Bad (length cas + 5))
        line_after_leaf some =
            let fits : BeginInput (before ++ (lines ++ line ∷ [])) = whole_begins (before ++ (lines ++ line ∷ []))
            (is_valid_path (question cas (Some leaf)), asks (Some leaf) (line ∷ []) (tells, tt)) in
            let many : length cas + 5 ≡ length (before ++ (lines ++ line ∷ [])) + 1 =
            omega (
              arith,
              length-append before (lines ++ line ∷ []),
              length-append lines (line ∷ []),
              three_so_far before is,
              as_many cas lines encoded,
            ) in
            let read = bad_after (before ++ (lines ++ line ∷ [])) fits (length cas + 5) many others some nothing_follows in (
              lines ++ line ∷ read.0,
              so_far (line ∷ read.0) (one_more line others rest read.0 first read.1),
              subst (λ (l : List (List ℕ)). IsBadLine (length cas + 5) l)
                  (append_assoc before (lines ++ line ∷ []) read.0 ∙ ap (λ (l : List (List ℕ)). before ++ l)
                  (append_assoc lines (line ∷ []) read.0)) read.2,
            )

-- ---- a further authority

-- one line of a CA more is read
pub authority_more : (lines : List (List ℕ)) (text rest : List ℕ) →
    ((more : List (List ℕ)) → AreTextLines more rest → AreTextLines (lines ++ more) text) → (line others : List ℕ) →
    IsFirstLine line others rest → (more : List (List ℕ)) → AreTextLines more others →
    AreTextLines ((lines ++ line ∷ []) ++ more) text
authority_more lines text rest so_far line others first more are = subst (λ (l : List (List ℕ)). AreTextLines l text)
    (sym (append_assoc lines (line ∷ []) more)) (so_far (line ∷ more) (one_more line others rest more first are))

-- the lines of the CAs with one more are lines of them
pub authority_encoded : (cas lines : List (List ℕ)) → AllZip IsInputLine (map authority cas) lines →
    (octets line : List ℕ) → IsInputLine (authority octets) line →
    AllZip IsInputLine (map authority (cas ++ octets ∷ [])) (lines ++ line ∷ [])
authority_encoded cas lines encoded octets line is =
    subst (λ (l : List InputLine). AllZip IsInputLine l (lines ++ line ∷ [])) (sym (map_push authority cas octets))
    (zip_more IsInputLine (map authority cas) lines (authority octets) line encoded is)
