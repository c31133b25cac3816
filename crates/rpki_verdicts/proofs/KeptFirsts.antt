-- The first path of a line, before further verdicts and behind them.
use Rattle.std.specs.List.{AllByRecursion}
use Rattle.std.specs.Prelude.{Any, IsOk, Result, Some, slice_get}
use Rattle.std.proofs.Common.{◌≡◌, ◌⊎◌, ◌<◌, ℕ, List, [], ◌∷◌, ◌++◌, length, get_or, refl, sym, ap, subst, ◌∙◌}
use Rattle.std.proofs.Common.{inl, inr, arith}
use Rattle.std.proofs.lemmas.List.Elements.{All-from_recursion, Contains-append_left, Contains-push, Contains-push_cases}
use Rattle.std.proofs.lemmas.Option.{slice_get_within, slice_get-get_or}
use Rattle.rpki_path.specs.declared.judging.Judged.{Judged}
use Rattle.rpki_path.specs.declared.path_fault.PathFault.{PathFault}
use Rattle.rpki_folder.specs.KeptLines.{AreFurther, AreLines, ArePaths, IsBy, IsLine, IsToldBy}
use Rattle.rpki_folder.specs.Walks.{Told}
use Rattle.rpki_folder.specs.declared.find.FoundPath.{FoundPath}
use Rattle.rpki_folder.specs.declared.lines.AcceptedPaths.{AcceptedPaths}
use Rattle.rpki_folder.specs.declared.lines.Line.{Line}
use Rattle.rpki_folder.specs.declared.lines.Line.TheVariants.{Unseen, Accepted, Rejected}
use Rattle.rpki_folder.proofs.KeptLineSteps.{none_accepted}
use Rattle.rpki_folder.proofs.KeptPaths.{first_told}
use Rattle.rpki_verdicts.specs.NamedPaths.{HasFirst, HasSome}
use Rattle.rpki_verdicts.proofs.ToldChoices.{line_kept}

-- ---- what was told

module _ (P : Told → Type 0) where
  pub told_more : (ts tail : List Told) → Any P ts → Any P (ts ++ tail)
  told_more ts tail h = let c = Contains-append_left ts tail h.1 (h.0, h.2, h.3) in (c.0, h.1, c.1, c.2, h.4)

  pub told_last : (ts : List Told) (t : Told) → P t → Any P (ts ++ t ∷ [])
  told_last ts t p = let c = Contains-push ts t in (c.0, t, c.1, c.2, p)

  pub told_before : (ts : List Told) (t : Told) → Any P (ts ++ t ∷ []) → Any P ts ⊎ P t
  told_before ts t h = elim (Contains-push_cases ts t h.1 (h.0, h.2, h.3)) [
    | inl c ↦ inl (c.0, h.1, c.1, c.2, h.4)
    | inr is ↦ inr (subst P (sym is) h.4)
  ]

-- the verdict accepts the certificate at the place
abbrev Accepts : ℕ → Told → Type 0
Accepts place u = (u.place ≡ place) × IsOk u.verdict

accepts_by : (ts : List Told) (place : ℕ) (path : FoundPath) → IsToldBy ts place path → Any (Accepts place) ts
accepts_by ts place path h =
    (h.0, h.1, h.2, h.3, (h.4.1, subst (λ (r : Result Judged PathFault). IsOk r) (sym h.4.2) refl))

-- ---- the first path

module _ (place : ℕ) (tail : List Told) where
  same_first : (ts : List Told) (p q : FoundPath) (ps qs : List FoundPath) (n m : ℕ) →
      AreFurther place [] ts (p ∷ ps) n → AreFurther place [] (ts ++ tail) (q ∷ qs) m → q.above.items ≡ p.above.items
  same_first [] p q ps qs n m h k = absurd (let is = h.0 in cc)
  same_first (u ∷ ts) p q ps qs n m (inl (old, h)) (inl (un, k)) = same_first ts p q ps qs n m h k
  same_first (u ∷ ts) p q ps qs n m (inl (old, h)) (inr (inl (b, more, new, by, low, k, is))) = absurd (old new)
  same_first (u ∷ ts) p q ps qs n m (inl (old, h)) (inr (inr (c, new, full, k, is))) = absurd (old new)
  same_first (u ∷ ts) p q ps qs n m (inr (inl (a, rest, new, by, low, h, is))) (inl (un, k)) = absurd (un new)
  same_first (u ∷ ts) p q ps qs n m (inr (inl (a, rest, new, by, low, h, is))) (inr (inl (b, more, fresh, its, few, k, are))) =
      let front : a ≡ p = cc in
      let back : q ≡ b = cc in
      ap (λ (r : FoundPath). r.above.items) back ∙ sym its.0 ∙ by.0 ∙ ap (λ (r : FoundPath). r.above.items) front
  same_first (u ∷ ts) p q ps qs n m (inr (inl (a, rest, new, by, low, h, is))) (inr (inr (c, fresh, full, k, are))) =
      absurd (omega (arith, full))
  same_first (u ∷ ts) p q ps qs n m (inr (inr (c, new, full, h, is))) k = absurd (omega (arith, full))

-- ---- lines

not_none : (ts : List Told) (place : ℕ) → AllByRecursion (λ u. u.place ≡ place → IsOk u.verdict → ⊥) ts →
    Any (Accepts place) ts → ⊥
not_none ts place none h =
    let one = subst (λ (u : Told). u.place ≡ place → IsOk u.verdict → ⊥) h.3
    (All-from_recursion (λ u. u.place ≡ place → IsOk u.verdict → ⊥) ts none h.0 h.1 h.2) in
    one h.4.0 h.4.1

-- the line of a place that was accepted accepts it
accepting : (ts : List Told) (place : ℕ) (l : Line) → IsLine ts place l → Any (Accepts place) ts →
    (paths : AcceptedPaths) × (l ≡ Accepted paths)
accepting ts place (Accepted paths) h some = (paths, refl)
accepting ts place Unseen h some =
    absurd (not_none ts place (none_accepted ts [] place Unseen (λ paths is. absurd cc) h) some)
accepting ts place (Rejected n fault) h some =
    absurd (not_none ts place (none_accepted ts [] place (Rejected n fault) (λ paths is. absurd cc) h) some)

accepted_at : (ts : List Told) (lines : List Line) (place : ℕ) → AreLines ts lines → place < length lines →
    Any (Accepts place) ts → (paths : AcceptedPaths) × (slice_get lines place ≡ Some (Accepted paths)) × ArePaths ts place paths
accepted_at ts lines place are low some =
    let l = get_or lines place Unseen in
    let a = accepting ts place l (are place Unseen low) some in (
      a.0,
      slice_get-get_or lines place Unseen low ∙ ap (λ (m : Line). Some m) a.1,
      subst (λ (m : Line). IsLine ts place m) a.1 (are place Unseen low),
    )

-- the first path stays
pub first_later : (ts tail : List Told) (old new : List Line) → AreLines ts old → AreLines (ts ++ tail) new →
    length new ≡ length old → (place : ℕ) (a : List ℕ) → HasFirst (slice_get old place) a → HasFirst (slice_get new place) a
first_later ts tail old new are now count place a (paths, is, same) =
    let line : ArePaths ts place paths = line_kept ts old place are (Accepted paths) is in
    let some = told_more (Accepts place) ts tail (accepts_by ts place paths.first (first_told ts place paths line)) in
    let low = slice_get_within old place (Accepted paths) is in
    let later = accepted_at (ts ++ tail) new place now (omega (arith, low, count)) some in (
      later.0,
      later.1,
      same_first place tail ts paths.first later.0.first paths.others.items later.0.others.items line.0 later.2.0 line.1
          later.2.1 ∙ same,
    )

-- where the line has none, a verdict gives it
pub first_now : (ts : List Told) (t : Told) (old new : List Line) → AreLines ts old → AreLines (ts ++ t ∷ []) new →
    length new ≡ length old → t.place < length old → IsOk t.verdict → (HasSome (slice_get old t.place) → ⊥) →
    HasFirst (slice_get new t.place) t.above
first_now ts t old new are now count low ok none =
    let some = told_last (Accepts t.place) ts t (refl, ok) in
    let later = accepted_at (ts ++ t ∷ []) new t.place now (omega (arith, low, count)) some in
    let first = first_told (ts ++ t ∷ []) t.place later.0 later.2 in
    elim (told_before (IsBy t.place later.0.first) ts t first) [
      | inl before ↦
          let was = accepted_at ts old t.place are low (accepts_by ts t.place later.0.first before) in
          absurd (none (was.0, was.1))
      | inr by ↦ (later.0, later.1, sym by.0)
    ]
