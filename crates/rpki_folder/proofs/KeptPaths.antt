-- One verdict more, in the paths that a line keeps.
use Rattle.std.specs.List.{AllByRecursion}
use Rattle.std.specs.Prelude.{Bool, IsOk, false, min, ◌||◌}
use Rattle.std.proofs.Common.{◌≡◌, ◌+◌, ◌-◌, ◌^◌, ◌<◌, ◌≤◌, ℕ, suc, List, [], ◌∷◌, ◌++◌, length, refl, sym, ap}
use Rattle.std.proofs.Common.{subst, ◌∙◌, inl, inr, arith, append_assoc}
use Rattle.std.proofs.lemmas.List.{append-nil}
use Rattle.rpki_folder.specs.Walks.{Told}
use Rattle.rpki_folder.specs.KeptLines.{AreFurther, ArePaths, IsBy, IsFurther, IsToldBy, most_paths, paths_in}
use Rattle.rpki_folder.specs.declared.find.FoundPath.{FoundPath}
use Rattle.rpki_folder.specs.declared.lines.AcceptedPaths.{AcceptedPaths}

-- the second of two, where the first isn't so
pub or_false : (a b r : Bool) → a ≡ false → r ≡ b → r ≡ (a || b)
or_false a b r is_false is = is ∙ sym (ap (λ (x : Bool). x || b) is_false)

-- verdicts none of which accepts the certificate
pub none_kept : (place : ℕ) (before : List FoundPath) (ts : List Told) →
    AllByRecursion (λ t. t.place ≡ place → IsOk t.verdict → ⊥) ts → AreFurther place before ts [] 0
none_kept place before [] h = (refl, refl)
none_kept place before (t ∷ ts) h = inl ((λ f. h.0 f.0 f.1), none_kept place before ts h.1)

-- what was told is told with one verdict more in front
behind : (place : ℕ) (t : Told) (ts : List Told) (p : FoundPath) → IsToldBy ts place p → IsToldBy (t ∷ ts) place p
behind place t ts p a = (suc a.0, a.1, (let low = a.2 in omega arith), a.3, a.4)

-- the first path was told
pub first_by : (place : ℕ) (before : List FoundPath) (ts : List Told) (p : FoundPath) (ps : List FoundPath)
    (n : ℕ) → AreFurther place before ts (p ∷ ps) n → IsToldBy ts place p
first_by place before [] p ps n h = absurd (let is = h.0 in cc)
first_by place before (t ∷ ts) p ps n (inl (old, h)) = behind place t ts p (first_by place before ts p ps n h)
first_by place before (t ∷ ts) p ps n (inr (inl (path, rest, new, by, low, h, is))) =
    let same : path ≡ p = cc in (0, t, omega arith, refl, subst (λ (q : FoundPath). IsBy place q t) same by)
first_by place before (t ∷ ts) p ps n (inr (inr (m, new, full, h, is))) =
    behind place t ts p (first_by place before ts p ps m h)

-- with the paths kept of the first verdict, those behind it are kept too
in_front : (before : List FoundPath) (path : FoundPath) (rest paths : List FoundPath) → paths ≡ path ∷ rest →
    (before ++ path ∷ []) ++ rest ≡ before ++ paths
in_front before path rest paths is = append_assoc before (path ∷ []) rest ∙ ap (λ (l : List FoundPath). before ++ l)
    (sym is)

none_behind : (before paths : List FoundPath) → paths ≡ [] → before ++ paths ≡ before
none_behind before paths is = ap (λ (l : List FoundPath). before ++ l) is ∙ append-nil before

module _ (place : ℕ) (t : Told) where
  abbrev New : List FoundPath → Type 0
  New paths = IsFurther place paths t

  -- a verdict by no further path
  pub same_kept : (before : List FoundPath) (ts : List Told) (paths : List FoundPath) (n : ℕ) →
      AreFurther place before ts paths n → (New (before ++ paths) → ⊥) →
      AreFurther place before (ts ++ t ∷ []) paths n
  same_kept before [] paths n h not = inl ((λ f. not (subst New (sym (none_behind before paths h.0)) f)), h)
  same_kept before (u ∷ ts) paths n (inl (old, h)) not = inl (old, same_kept before ts paths n h not)
  same_kept before (u ∷ ts) paths n (inr (inl (path, rest, new, by, low, h, is))) not =
      inr (inl (
        path,
        rest,
        new,
        by,
        low,
        same_kept (before ++ path ∷ []) ts rest n h
            (λ f. not (subst New (in_front before path rest paths is) f)),
        is,
      ))
  same_kept before (u ∷ ts) paths n (inr (inr (m, new, full, h, is))) not =
      inr (inr (m, new, full, same_kept before ts paths m h not, is))

  -- one by a further path, which is kept
  pub more_kept : (p : FoundPath) → IsBy place p t →
      (before : List FoundPath) (ts : List Told) (paths : List FoundPath) (n : ℕ) →
      AreFurther place before ts paths n → New (before ++ paths) → length (before ++ paths) < most_paths →
      AreFurther place before (ts ++ t ∷ []) (paths ++ p ∷ []) n
  more_kept p is_by before [] paths n h new low =
      let none = none_behind before paths h.0 in
      inr (inl (
        p,
        [],
        subst New none new,
        is_by,
        subst (λ (l : List FoundPath). length l < most_paths) none low,
        (refl, h.1),
        ap (λ (l : List FoundPath). l ++ p ∷ []) h.0,
      ))
  more_kept p is_by before (u ∷ ts) paths n (inl (old, h)) new low =
      inl (old, more_kept p is_by before ts paths n h new low)
  more_kept p is_by before (u ∷ ts) paths n (inr (inl (path, rest, fresh, by, fewer, h, is))) new low =
      let same = sym (in_front before path rest paths is) in
      inr (inl (
        path,
        rest ++ p ∷ [],
        fresh,
        by,
        fewer,
        more_kept p is_by (before ++ path ∷ []) ts rest n h (subst New same new)
            (subst (λ (l : List FoundPath). length l < most_paths) same low),
        ap (λ (l : List FoundPath). l ++ p ∷ []) is,
      ))
  more_kept p is_by before (u ∷ ts) paths n (inr (inr (m, fresh, full, h, is))) new low =
      inr (inr (m, fresh, full, more_kept p is_by before ts paths m h new low, is))

  -- and one that is counted
  pub more_counted : (before : List FoundPath) (ts : List Told) (paths : List FoundPath) (n : ℕ) →
      AreFurther place before ts paths n → New (before ++ paths) → most_paths ≤ length (before ++ paths) →
      AreFurther place before (ts ++ t ∷ []) paths (n + 1)
  more_counted before [] paths n h new full =
      let none = none_behind before paths h.0 in
      inr (inr (n, subst New none new, subst (λ (l : List FoundPath). most_paths ≤ length l) none full, h, refl))
  more_counted before (u ∷ ts) paths n (inl (old, h)) new full = inl (old, more_counted before ts paths n h new full)
  more_counted before (u ∷ ts) paths n (inr (inl (path, rest, fresh, by, fewer, h, is))) new full =
      let same = sym (in_front before path rest paths is) in
      inr (inl (
        path,
        rest,
        fresh,
        by,
        fewer,
        more_counted (before ++ path ∷ []) ts rest n h (subst New same new)
            (subst (λ (l : List FoundPath). most_paths ≤ length l) same full),
        is,
      ))
  more_counted before (u ∷ ts) paths n (inr (inr (m, fresh, was_full, h, is))) new full =
      inr (inr (m + 1, fresh, was_full, more_counted before ts paths m h new full, ap (λ (k : ℕ). k + 1) is))

  -- ---- the paths of a line

  -- a verdict by no further path
  pub paths_same : (ts : List Told) (paths : AcceptedPaths) → ArePaths ts place paths → (New (paths_in paths) → ⊥) →
      ArePaths (ts ++ t ∷ []) place paths
  paths_same ts paths h not = (h.0, same_kept [] ts (paths_in paths) h.0 h.1 not, h.2)

  -- the first path
  pub paths_first : (ts : List Told) (paths : AcceptedPaths) → IsBy place paths.first t → paths.others.items ≡ [] →
      paths.more ≡ 0 → AllByRecursion (λ u. u.place ≡ place → IsOk u.verdict → ⊥) ts →
      ArePaths (ts ++ t ∷ []) place paths
  paths_first ts paths is_by others more none =
      let ok : IsOk t.verdict = subst (λ r. IsOk r) (sym is_by.2) refl in
      let kept = more_kept paths.first is_by [] ts [] 0 (none_kept place [] ts none) (is_by.1, ok, refl)
      (omega arith) in (
        0,
        subst (λ (l : List FoundPath). AreFurther place [] (ts ++ t ∷ []) (paths.first ∷ l) 0) (sym others) kept,
        more,
      )

  -- a further one
  pub paths_more : (ts : List Told) (old new : AcceptedPaths) (p : FoundPath) → ArePaths ts place old →
      New (paths_in old) → IsBy place p t → length old.others.items < 7 → new.first ≡ old.first →
      new.others.items ≡ old.others.items ++ p ∷ [] → new.more ≡ old.more → ArePaths (ts ++ t ∷ []) place new
  paths_more ts old new p h fresh is_by few first others more =
      let kept = more_kept p is_by [] ts (paths_in old) h.0 h.1 fresh (omega arith) in
      let same : paths_in old ++ p ∷ [] ≡ paths_in new = ap (λ (l : List FoundPath). old.first ∷ l) (sym others) ∙
      ap (λ (f : FoundPath). f ∷ new.others.items) (sym first) in
      (h.0, subst (λ (l : List FoundPath). AreFurther place [] (ts ++ t ∷ []) l h.0) same kept, more ∙ h.2)

  -- one that is counted
  pub paths_counted : (ts : List Told) (old new : AcceptedPaths) → ArePaths ts place old → New (paths_in old) →
      7 ≤ length old.others.items → new.first ≡ old.first → new.others.items ≡ old.others.items →
      new.more ≡ min (old.more + 1) (2 ^ 64 - 1) → ArePaths (ts ++ t ∷ []) place new
  paths_counted ts old new h fresh full first others more =
      let counted = more_counted [] ts (paths_in old) h.0 h.1 fresh (omega arith) in
      let same : paths_in old ≡ paths_in new = ap (λ (l : List FoundPath). old.first ∷ l) (sym others) ∙
      ap (λ (f : FoundPath). f ∷ new.others.items) (sym first) in (
        h.0 + 1,
        subst (λ (l : List FoundPath). AreFurther place [] (ts ++ t ∷ []) l (h.0 + 1)) same counted,
        (let was = h.2 in omega (arith, more, was)),
      )

-- the first path of a line was told
pub first_told : (ts : List Told) (place : ℕ) (paths : AcceptedPaths) → ArePaths ts place paths →
    IsToldBy ts place paths.first
first_told ts place paths h = first_by place [] ts paths.first paths.others.items h.0 h.1
