-- One verdict more, in the lines that are kept.
use Rattle.std.specs.List.{AllByRecursion}
use Rattle.std.specs.Prelude.{Any, Result, Ok, Err, IsOk, OnErr, OnOk}
use Rattle.std.proofs.Common.{◌≡◌, ◌+◌, ◌<◌, ◌≤◌, ℕ, List, [], ◌∷◌, ◌++◌, length, get_or, refl, sym, ap, subst, ◌∙◌}
use Rattle.std.proofs.Common.{inl, inr, arith}
use Rattle.std.proofs.Math.ListN.{set, get_or-append}
use Rattle.std.proofs.Math.Nat.{eq-or-lt_of_le}
use Rattle.std.proofs.Math.Seq.{get_or-append_seam}
use Rattle.std.proofs.lemmas.Bool.{cases_eq}
use Rattle.std.proofs.lemmas.List.{get_or-set_same, get_or-set_other, get_or_default, length-set, length-append}
use Rattle.std.proofs.lemmas.List.Elements.{Contains-append_left, Contains-push}
use Rattle.rpki_path.specs.declared.judging.Judged.{Judged}
use Rattle.rpki_path.specs.declared.path_fault.PathFault.{PathFault}
use Rattle.rpki_folder.specs.Walks.{Told, told_at, IsTold}
use Rattle.rpki_folder.specs.KeptLines.{step, IsRejectedWithin, IsToldBy, IsLine, AreLines, Stays}
use Rattle.rpki_folder.specs.declared.find.FoundPath.{FoundPath}
use Rattle.rpki_folder.specs.declared.lines.AcceptedPaths.{AcceptedPaths}
use Rattle.rpki_folder.specs.declared.lines.Line.{Line}
use Rattle.rpki_folder.specs.declared.lines.Line.TheVariants.{Unseen, Accepted, Rejected}
use Rattle.rpki_folder.proofs.Descent.{all_append, less-or-not}
use Rattle.rpki_folder.proofs.KeptPaths.{paths_first, paths_same}

any_more : (P : Told → Type 0) (ts more : List Told) → Any P ts → Any P (ts ++ more)
any_more P ts more h = let c = Contains-append_left ts more h.1 (h.0, h.2, h.3) in (c.0, h.1, c.1, c.2, h.4)

any_last : (P : Told → Type 0) (ts : List Told) (t : Told) → P t → Any P (ts ++ t ∷ [])
any_last P ts t p = let c = Contains-push ts t in (c.0, t, c.1, c.2, p)

all_weaker : {X : Type 0} (P Q : X → Type 0) → ((x : X) → P x → Q x) → (xs : List X) → AllByRecursion P xs →
    AllByRecursion Q xs
all_weaker P Q f [] h = tt
all_weaker P Q f (x ∷ xs) h = (f x h.0, all_weaker P Q f xs h.1)

-- what holds, and what follows where it was Ok
pub when_ok : {T E : Type 0} (P N Q : Type 0) (r : Result T E) → P → (N → OnOk r Q) → OnOk r (P × (N → Q))
when_ok P N Q (Ok x) p f = (p, f)
when_ok P N Q (Err e) p f = tt

pub when_err : {T E : Type 0} (P N Q : Type 0) (r : Result T E) → P → (N → OnErr r Q) → OnErr r (P × (N → Q))
when_err P N Q (Ok x) p f = tt
when_err P N Q (Err e) p f = (p, f)

-- what follows of either
pub ok_gives : {T E : Type 0} (P Q : Type 0) (r : Result T E) → (P → Q) → OnOk r P → OnOk r Q
ok_gives P Q (Ok x) f p = f p
ok_gives P Q (Err e) f p = tt

pub err_gives : {T E : Type 0} (P Q : Type 0) (r : Result T E) → (P → Q) → OnErr r P → OnErr r Q
err_gives P Q (Ok x) f p = tt
err_gives P Q (Err e) f p = f p

pub then_err : {T E : Type 0} (P : Type 0) (r : Result T E) → P → OnErr r P
then_err P (Ok x) p = tt
then_err P (Err e) p = p

-- what is told so is told
pub told_so : (ts : List Told) (place : ℕ) (path : FoundPath) → IsToldBy ts place path →
    IsTold ts path.above.items place
told_so ts place path h =
    (h.0, h.1, h.2, h.3, (h.4.0, h.4.1, subst (λ (r : Result Judged PathFault). IsOk r) (sym h.4.2) refl))

-- lines of which one was replaced by such a line, where nothing was told
pub line_again : (ts : List Told) (lines : List Line) (place : ℕ) (l : Line) → place < length lines →
    AreLines ts lines → IsLine ts place l → AreLines ts (set lines place l)
line_again ts lines place l here old new = λ p d low.
    let short : p < length lines = omega (arith, length-set lines place l) in
    elim (cases_eq p place) [
      | inl is ↦ subst (λ (k : ℕ). IsLine ts k (get_or (set lines place l) k d)) (sym is)
          (subst (λ (k : Line). IsLine ts place k) (sym (get_or-set_same lines place l d here)) new)
      | inr apart ↦ subst (λ (k : Line). IsLine ts p k) (sym (get_or-set_other lines place p l d apart)) (old p d short)
    ]

module _ (ts : List Told) (t : Told) where
  -- the line of another place
  other_line : (place : ℕ) (l : Line) → (t.place ≡ place → ⊥) → IsLine ts place l → IsLine (ts ++ t ∷ []) place l
  other_line place Unseen apart h = all_append (λ (u : Told). u.place ≡ place → ⊥) ts (t ∷ []) h (apart, tt)
  other_line place (Accepted paths) apart h = paths_same place t ts paths h (λ f. apart f.0)
  other_line place (Rejected n fault) apart h = (
    any_more (λ u. (u.place ≡ place) × (step u ≡ n) × (u.verdict ≡ Err fault)) ts (t ∷ []) h.0,
    all_append (IsRejectedWithin place n) ts (t ∷ []) h.1 ((λ is. absurd (apart is)), tt),
  )

  -- lines of which that of the verdict's place was changed
  pub line_set : (lines : List Line) (l : Line) → t.place < length lines → AreLines ts lines →
      IsLine (ts ++ t ∷ []) t.place l → AreLines (ts ++ t ∷ []) (set lines t.place l)
  line_set lines l here old new = λ place d low.
      let short : place < length lines = omega (arith, length-set lines t.place l) in
      elim (cases_eq place t.place) [
        | inl is ↦ subst (λ (p : ℕ). IsLine (ts ++ t ∷ []) p (get_or (set lines t.place l) p d)) (sym is)
            (subst (λ (k : Line). IsLine (ts ++ t ∷ []) t.place k) (sym (get_or-set_same lines t.place l d here)) new)
        | inr apart ↦ subst (λ (k : Line). IsLine (ts ++ t ∷ []) place k)
            (sym (get_or-set_other lines t.place place l d apart))
            (other_line place (get_or lines place d) (λ is. apart (sym is)) (old place d short))
      ]

  -- lines of which none was changed
  pub line_kept : (lines : List Line) → AreLines ts lines →
      ((d : Line) → t.place < length lines → IsLine ts t.place (get_or lines t.place d) →
      IsLine (ts ++ t ∷ []) t.place (get_or lines t.place d)) → AreLines (ts ++ t ∷ []) lines
  line_kept lines old same = λ place d low. elim (cases_eq t.place place) [
    | inl is ↦ subst (λ (p : ℕ). IsLine (ts ++ t ∷ []) p (get_or lines p d)) is
        (same d (subst (λ (p : ℕ). p < length lines) (sym is) low)
        (old t.place d (subst (λ (p : ℕ). p < length lines) (sym is) low)))
    | inr apart ↦ other_line place (get_or lines place d) apart (old place d low)
  ]

module _ (ts : List Told) (above : List ℕ) (place : ℕ) where
  -- a line of no accepting verdict says so
  pub none_accepted : (l : Line) → ((paths : AcceptedPaths) → l ≡ Accepted paths → ⊥) → IsLine ts place l →
      AllByRecursion (λ u. u.place ≡ place → IsOk u.verdict → ⊥) ts
  none_accepted Unseen other h = all_weaker (λ (u : Told). u.place ≡ place → ⊥) (λ (u : Told). u.place ≡ place →
      IsOk u.verdict → ⊥) (λ u never same ok. never same) ts h
  none_accepted (Accepted paths) other h = absurd (other paths refl)
  none_accepted (Rejected n fault) other h = all_weaker (IsRejectedWithin place n) (λ (u : Told). u.place ≡ place →
      IsOk u.verdict → ⊥) (λ u old same ok. (old same).0 ok) ts h.1

  -- an accepted certificate has its line
  pub accepted_now : (j : Judged) (paths : AcceptedPaths) (l : Line) →
      ((paths : AcceptedPaths) → l ≡ Accepted paths → ⊥) → IsLine ts place l → paths.first.above.items ≡ above →
      paths.first.judged ≡ j → paths.others.items ≡ [] → paths.more ≡ 0 →
      IsLine (ts ++ told_at above place (Ok j) ∷ []) place (Accepted paths)
  accepted_now j paths l other h is holds others more = paths_first place (told_at above place (Ok j)) ts paths
      (sym is, refl, ap (λ (k : Judged). Ok k) (sym holds)) others more (none_accepted l other h)

  -- and keeps it where it is rejected
  pub accepted_before : (fault : PathFault) (paths : AcceptedPaths) → IsLine ts place (Accepted paths) →
      IsLine (ts ++ told_at above place (Err fault) ∷ []) place (Accepted paths)
  accepted_before fault paths h = paths_same place (told_at above place (Err fault)) ts paths h
      (λ f. let ok = f.1 in absurd cc)

  module _ (fault : PathFault) where
    abbrev t : Told
    t = told_at above place (Err fault)

    within : (n : ℕ) → length above + 1 ≤ n → IsRejectedWithin place n t
    within n low = λ is. ((λ ok. absurd cc), low)

    -- the first that is rejected
    pub rejected_first : (n : ℕ) → n ≡ length above + 1 → IsLine ts place Unseen →
        IsLine (ts ++ t ∷ []) place (Rejected n fault)
    rejected_first n is h = (
      any_last (λ u. (u.place ≡ place) × (step u ≡ n) × (u.verdict ≡ Err fault)) ts t (refl, sym is, refl),
      all_append (IsRejectedWithin place n) ts (t ∷ [])
          (all_weaker (λ (u : Told). u.place ≡ place → ⊥) (IsRejectedWithin place n)
          (λ u never same. absurd (never same)) ts h)
          (within n (omega (arith, is)), tt),
    )

    -- one at a higher step
    pub rejected_higher : (n m : ℕ) (other : PathFault) → n ≡ length above + 1 → m < n →
        IsLine ts place (Rejected m other) → IsLine (ts ++ t ∷ []) place (Rejected n fault)
    rejected_higher n m other is less h = (
      any_last (λ u. (u.place ≡ place) × (step u ≡ n) × (u.verdict ≡ Err fault)) ts t (refl, sym is, refl),
      all_append (IsRejectedWithin place n) ts (t ∷ [])
          (all_weaker (IsRejectedWithin place m) (IsRejectedWithin place n)
          (λ u old same. ((old same).0, (let low : step u ≤ m = (old same).1 in omega arith))) ts h.1)
          (within n (omega (arith, is)), tt),
    )

    -- one that isn't
    pub rejected_lower : (m : ℕ) (other : PathFault) → length above + 1 ≤ m → IsLine ts place (Rejected m other) →
        IsLine (ts ++ t ∷ []) place (Rejected m other)
    rejected_lower m other less h = (
      any_more (λ u. (u.place ≡ place) × (step u ≡ m) × (u.verdict ≡ Err other)) ts (t ∷ []) h.0,
      all_append (IsRejectedWithin place m) ts (t ∷ []) h.1 (within m less, tt),
    )

    -- a line that stays
    pub kept_line : (l : Line) → Stays (length above + 1) l → IsLine ts place l → IsLine (ts ++ t ∷ []) place l
    kept_line Unseen stays h = absurd stays
    kept_line (Accepted paths) stays h = accepted_before fault paths h
    kept_line (Rejected m other) stays h = rejected_lower m other stays h

    -- one that doesn't
    pub new_line : (l : Line) → (Stays (length above + 1) l → ⊥) → IsLine ts place l →
        IsLine (ts ++ t ∷ []) place (Rejected (length above + 1) fault)
    new_line Unseen goes h = rejected_first (length above + 1) refl h
    new_line (Accepted paths) goes h = absurd (goes tt)
    new_line (Rejected m other) goes h = let less : m < length above + 1 =
        elim (less-or-not m (length above + 1)) [ inl low ↦ low | inr high ↦ absurd (goes high) ] in
        rejected_higher (length above + 1) m other refl less h

-- ---- lines

-- the line at a place
pub at_place : (inside lines : List Line) (place : ℕ) (now : Line) → inside ≡ lines →
    now ≡ get_or inside place now → place < length lines → (d : Line) → get_or lines place d ≡ now
at_place inside lines place now same is low d = get_or_default lines place d now low ∙
    ap (λ (l : List Line). get_or l place now) (sym same) ∙ sym is

-- lines of which nothing was told, with one more
pub unseen_more : (lines : List Line) → AreLines [] lines → AreLines [] (lines ++ Unseen ∷ [])
unseen_more lines old = λ place d low.
    let short : place ≤ length lines = omega (arith, length-append lines (Unseen ∷ [])) in
    elim (eq-or-lt_of_le short) [
      | inl is ↦ subst (λ (p : ℕ). IsLine [] p (get_or (lines ++ Unseen ∷ []) p d)) (sym is)
          (subst (λ (l : Line). IsLine [] (length lines) l) (sym (get_or-append_seam lines Unseen [] d)) tt)
      | inr less ↦ subst (λ (l : Line). IsLine [] place l) (sym (get_or-append lines (Unseen ∷ []) d place less))
          (old place d less)
    ]
