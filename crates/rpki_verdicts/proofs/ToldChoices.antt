-- Each path that may be shown was told.
use Rattle.std.specs.BTreeMap.{get}
use Rattle.std.specs.List.{AllByRecursion}
use Rattle.std.specs.Ordering.{nat_cmp}
use Rattle.std.specs.Prelude.{Bool, true, false, if◌then◌else◌, Contains, Option, None, Some, slice_get}
use Rattle.std.proofs.Common.{◌≡◌, ◌-◌, ℕ, zero, suc, List, [], ◌∷◌, ◌++◌, refl, sym, ap, subst, inl, inr, arith, take}
use Rattle.std.proofs.lemmas.List.Elements.{All-from_recursion}
use Rattle.std.proofs.lemmas.Option.{slice_get_within, get_or_from_slice_get}
use Rattle.rpki_cert.specs.Verification.{Context}
use Rattle.rpki_folder.specs.FirstPlaces.{first_place_of}
use Rattle.rpki_folder.specs.KeptLines.{AreFurther, AreLines, IsLine, IsToldBy, has_path, most_paths, paths_in}
use Rattle.rpki_folder.specs.Walks.{IsTold, Told}
use Rattle.rpki_folder.specs.declared.find.FoundPath.{FoundPath}
use Rattle.rpki_folder.specs.declared.lines.AcceptedPaths.{AcceptedPaths}
use Rattle.rpki_folder.specs.declared.lines.Line.{Line}
use Rattle.rpki_folder.specs.declared.lines.Line.TheVariants.{Accepted}
use Rattle.rpki_folder.proofs.KeptLineSteps.{told_so}
use Rattle.rpki_verdicts.specs.GivenLocators.{LocatorFields}
use Rattle.rpki_verdicts.specs.ShownPaths.{choice_of, named_in}
use Rattle.rpki_verdicts.specs.Trees.{IsTreeOf, TreeFields}
use Rattle.rpki_verdicts.specs.declared.unordered.Tree.{Tree}

-- the line at a place is that of the verdicts
pub line_kept : (ts : List Told) (lines : List Line) (place : ℕ) → AreLines ts lines → (l : Line) →
    slice_get lines place ≡ Some l → IsLine ts place l
line_kept ts lines place are l is =
    subst (λ (m : Line). IsLine ts place m) (get_or_from_slice_get lines place l l is) (are place l (slice_get_within lines place l is))

behind : (place : ℕ) (t : Told) (ts : List Told) (p : FoundPath) → IsToldBy ts place p → IsToldBy (t ∷ ts) place p
behind place t ts p a = (suc a.0, a.1, (let low = a.2 in omega (arith, low)), a.3, a.4)

all_behind : (place : ℕ) (t : Told) (ts : List Told) (ps : List FoundPath) → AllByRecursion (IsToldBy ts place) ps →
    AllByRecursion (IsToldBy (t ∷ ts) place) ps
all_behind place t ts [] h = tt
all_behind place t ts (p ∷ ps) h = (behind place t ts p h.0, all_behind place t ts ps h.1)

all_told : (place : ℕ) (before : List FoundPath) (ts : List Told) (ps : List FoundPath) (n : ℕ) →
    AreFurther place before ts ps n → AllByRecursion (IsToldBy ts place) ps
all_told place before [] ps n h = subst (λ (l : List FoundPath). AllByRecursion (IsToldBy [] place) l) (sym h.0) tt
all_told place before (t ∷ ts) ps n (inl (old, h)) = all_behind place t ts ps (all_told place before ts ps n h)
all_told place before (t ∷ ts) ps n (inr (inl (p, rest, new, by, low, h, is))) =
    subst (λ (l : List FoundPath). AllByRecursion (IsToldBy (t ∷ ts) place) l) (sym is)
    ((0, t, omega arith, refl, by), all_behind place t ts rest (all_told place (before ++ p ∷ []) ts rest n h))
all_told place before (t ∷ ts) ps n (inr (inr (m, new, full, h, is))) = all_behind place t ts ps (all_told place before ts ps m h)

taken : (P : FoundPath → Type 0) (n : ℕ) (ps : List FoundPath) → AllByRecursion P ps → AllByRecursion P (take n ps)
taken P zero ps h = tt
taken P (suc n) [] h = tt
taken P (suc n) (p ∷ ps) h = (h.0, taken P n ps h.1)

with_last : (P : FoundPath → Type 0) (ps : List FoundPath) (p : FoundPath) → AllByRecursion P ps → P p → AllByRecursion P (ps ++ p ∷ [])
with_last P [] p h last = (last, tt)
with_last P (q ∷ ps) p h last = (h.0, with_last P ps p h.1 last)

pub of_contained : (P : FoundPath → Type 0) (ps : List FoundPath) (p : FoundPath) → AllByRecursion P ps → Contains ps p → P p
of_contained P ps p h at = subst P at.2 (All-from_recursion P ps h at.0 p at.1)

-- ---- a tree

module _ (x : Context) (q : TreeFields) (l : LocatorFields) (tree : Tree) (is : IsTreeOf x q l tree) (place : ℕ)
    (itself : first_place_of tree.firsts place ≡ place) (paths : AcceptedPaths)
    (line : slice_get tree.lines place ≡ Some (Accepted paths)) where
  abbrev Its : List FoundPath → Type 0
  Its ps = AllByRecursion (IsToldBy is.told place) ps

  pub kept_told : Its (paths_in paths)
  kept_told =
      let k = line_kept is.told tree.lines place is.lines_are (Accepted paths) line in
      all_told place [] is.told (paths_in paths) k.0 k.1

  by_has : (path : FoundPath) → IsToldBy is.told place path → (b : Bool) →
      Its (if b then paths_in paths else take (most_paths - 1) (paths_in paths) ++ path ∷ [])
  by_has path its true = kept_told
  by_has path its false = with_last (IsToldBy is.told place) (take (most_paths - 1) (paths_in paths)) path
      (taken (IsToldBy is.told place) (most_paths - 1) (paths_in paths) kept_told) its

  by_named : (o : Option FoundPath) → get nat_cmp tree.named place ≡ o → Its (choice_of (paths_in paths) o)
  by_named None none = kept_told
  by_named (Some path) some =
      by_has path (is.named_are.only place path some).0 (has_path (paths_in paths) path.above.items)

  pub choice_told : Its (choice_of (paths_in paths) (named_in tree place))
  choice_told = by_named (named_in tree place) (ap (λ (p : ℕ). get nat_cmp tree.named p) (sym itself))

  -- it was told by that path
  pub shown_told : (path : FoundPath) → Contains (choice_of (paths_in paths) (named_in tree place)) path →
      IsTold is.told path.above.items place
  shown_told path kept =
      told_so is.told place path
      (of_contained (IsToldBy is.told place) (choice_of (paths_in paths) (named_in tree place)) path choice_told kept)
