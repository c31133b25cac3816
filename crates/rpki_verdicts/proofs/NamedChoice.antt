-- The paths among which one is shown.
use Rattle.std.specs.List.{AllByRecursion}
use Rattle.std.specs.Prelude.{Bool, true, false, if◌then◌else◌, Option, None, Some}
use Rattle.std.proofs.Common.{◌≡◌, ◌∙◌, ◌-◌, ◌≤◌, ◌++◌, ℕ, zero, suc, List, [], ◌∷◌, length, map, take, sym, ap, arith}
use Rattle.std.proofs.lemmas.List.{map-append, take-map}
use Rattle.rpki_folder.specs.KeptLines.{has_path, most_paths}
use Rattle.rpki_folder.specs.declared.find.FoundPath.{FoundPath}
use Rattle.rpki_verdicts.specs.ShownPaths.{choice_of}
use Rattle.rpki_verdicts.specs.declared.shown_paths.RankedPath.{RankedPath}

some_last : (paths : List FoundPath) (last : FoundPath) → 1 ≤ length (paths ++ last ∷ [])
some_last [] last = omega arith
some_last (path ∷ paths) last = omega arith

-- there is one
pub some_choice : (path : FoundPath) (paths : List FoundPath) (beside : Option FoundPath) →
    1 ≤ length (choice_of (path ∷ paths) beside)
some_choice path paths None = omega arith
some_choice path paths (Some named) = by_test (has_path (path ∷ paths) named.above.items) where
  by_test : (t : Bool) → 1 ≤ length (if t then path ∷ paths else take (most_paths - 1) (path ∷ paths) ++ named ∷ [])
  by_test true = omega arith
  by_test false = some_last (take (most_paths - 1) (path ∷ paths)) named

-- where it stands in the place of the last
pub choice_changed : (paths : List FoundPath) (named : FoundPath) (beside : Option FoundPath) → Some named ≡ beside →
    has_path paths named.above.items ≡ false → (all cut : List RankedPath) (last : RankedPath) →
    map (λ it. it.path.now) all ≡ paths → cut ≡ take (most_paths - 1) all ++ last ∷ [] → last.path.now ≡ named →
    map (λ it. it.path.now) cut ≡ choice_of paths beside
choice_changed paths named beside is has all cut last are changed same =
    let path_of : RankedPath → FoundPath = λ it. it.path.now in
    ap (λ (l : List RankedPath). map path_of l) changed
    ∙ map-append path_of (take (most_paths - 1) all) (last ∷ [])
    ∙ ap (λ (l : List FoundPath). l ++ last.path.now ∷ []) (sym (take-map path_of (most_paths - 1) all))
    ∙ ap (λ (l : List FoundPath). take (most_paths - 1) l ++ last.path.now ∷ []) are
    ∙ ap (λ (p : FoundPath). take (most_paths - 1) paths ++ p ∷ []) same
    ∙ sym (ap (λ (t : Bool). if t then paths else take (most_paths - 1) paths ++ named ∷ []) has)
    ∙ ap (λ (o : Option FoundPath). choice_of paths o) is

module _ (P : RankedPath → Type 0) where
  first_few : (n : ℕ) (all : List RankedPath) → AllByRecursion P all → AllByRecursion P (take n all)
  first_few zero all h = tt
  first_few (suc n) [] h = tt
  first_few (suc n) (r ∷ all) h = (h.0, first_few n all h.1)

  one_more : (all : List RankedPath) (last : RankedPath) → AllByRecursion P all → P last → AllByRecursion P (all ++ last ∷ [])
  one_more [] last h p = (p, tt)
  one_more (r ∷ all) last h p = (h.0, one_more all last h.1 p)

  -- what each has, also the last one, each has
  pub each_changed : (n : ℕ) (all : List RankedPath) (last : RankedPath) → AllByRecursion P all → P last →
      AllByRecursion P (take n all ++ last ∷ [])
  each_changed n all last h p = one_more (take n all) last (first_few n all h) p
