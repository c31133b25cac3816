-- Names of folders, opened one after the other, and sorted.
use Rattle.std.proofs.Common.{◌≡◌, ◌+◌, ◌<◌, ◌∷◌, ◌++◌, ℕ, Bool, List, [], length, map, refl, sym, subst, ◌∙◌, ap, add-one, arith}
use Rattle.std.proofs.lemmas.List.{append_assoc, append-nil, get_or-map, length-map}
use Rattle.std.specs.Bool.{MatchBool}
use Rattle.std.specs.List.Sorted.{IsSortedBy}
use Rattle.rpki_command.specs.ListedFolders.{ListsFolder, StandFor, StandsForItself, AreOpened, AreDown, is_folder_name}

-- what is sorted by what a function gives, is sorted where that stands in its place
pub IsSortedBy-map : {X Y : Type 0} (f : X → Y) (lt : Y → Y → Bool) (xs : List X) →
    IsSortedBy (λ a b. lt (f a) (f b)) xs → IsSortedBy lt (map f xs)
IsSortedBy-map f lt [] up = λ k d low high. absurd (omega arith)
IsSortedBy-map f lt (x ∷ xs) up = λ k d low high.
    let within : k + 1 < length (x ∷ xs) = omega (arith, length-map (x ∷ xs) f) in
    rw (get_or-map f (x ∷ xs) (k + 1) x d within, get_or-map f (x ∷ xs) k x d (omega arith)) (up k x low within)

module _ (lists : ListsFolder) (opens : List ℕ → Bool) where
  -- of both
  both_opened : (a b x y : List (List ℕ)) (m n : ℕ) (s t : List ℕ) → AreOpened lists opens a x m s →
      AreOpened lists opens b y n t → AreOpened lists opens (a ++ b) (x ++ y) (m + n) (s ++ t)
  both_opened [] b x y m n s t (none, zero_is, silent) q =
      let same : n ≡ m + n = omega (arith, zero_is) in
      rw (none, silent) (subst (λ (k : ℕ). AreOpened lists opens b y k t) same q)
  both_opened (name ∷ a) b x y m n s t (its, more, of_it, of_more, line, lines, first, rest, is, count, said) q = (
    its,
    more ++ y,
    of_it,
    of_more + n,
    line,
    lines ++ t,
    first,
    both_opened a b more y of_more n lines t rest q,
    ap (λ (l : List (List ℕ)). l ++ y) is ∙ append_assoc its more y,
    omega (arith, count),
    ap (λ (l : List ℕ). l ++ t) said ∙ append_assoc line lines t,
  )

  -- of one more
  pub opened_more : (a x : List (List ℕ)) (m : ℕ) (s : List ℕ) (name : List ℕ) (its : List (List ℕ)) (n : ℕ)
      (line : List ℕ) → AreOpened lists opens a x m s →
      MatchBool (opens name) (StandFor lists name its n line) (StandsForItself name its n line) →
      AreOpened lists opens (a ++ name ∷ []) (x ++ its) (m + n) (s ++ line)
  opened_more a x m s name its n line p one =
      both_opened a (name ∷ []) x its m n s line p (
        its,
        [],
        n,
        0,
        line,
        [],
        one,
        (refl, refl, refl),
        sym (append-nil its),
        omega arith,
        sym (append-nil line),
      )

module _ (lists : ListsFolder) where
  -- no level
  pub down_none : (names : List (List ℕ)) → AreDown lists 0 names names 0 []
  unfolding AreDown
  down_none names = (refl, refl, refl)

  -- one level more
  pub down_more : (levels : ℕ) (names above all : List (List ℕ)) (m n : ℕ) (said line : List ℕ) →
      AreDown lists levels names above m said → AreOpened lists is_folder_name above all n line →
      AreDown lists (levels + 1) names all (m + n) (said ++ line)
  unfolding AreDown
  down_more levels names above all m n said line down next =
      subst (λ (k : ℕ). AreDown lists k names all (m + n) (said ++ line)) (sym (add-one levels))
      (above, m, n, said, line, down, next, refl, refl)
