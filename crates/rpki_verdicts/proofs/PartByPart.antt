-- What is found of parts, one after the other.
use Rattle.std.specs.Prelude.{◌==◌, All, Any, Option, Some, None, find}
use Rattle.std.proofs.Common.{◌≡◌, ◌+◌, ◌<◌, ◌≤◌, ℕ, List, [], ◌∷◌, ◌++◌, length, take, drop, get_or, refl, sym, ap, subst, ◌∙◌}
use Rattle.std.proofs.lemmas.Grind.{flat_map-append}
use Rattle.std.proofs.lemmas.List.{append-nil, take-append-drop, take_all, take_more}
use Rattle.std.proofs.lemmas.List.Elements.{All-more}
use Rattle.std.proofs.lemmas.List.Folds.{find-append}
use Rattle.rpki_files.specs.Files.{FileFields}
use Rattle.rpki_verdicts.specs.Searches.{first_wrong}
use Rattle.rpki_verdicts.specs.TreeParts.{wrong_in, wrong_of}
use Rattle.rpki_verdicts.specs.declared.parts.TreePart.{TreePart}
use Rattle.rpki_verdicts.specs.declared.unordered.WrongAnchor.{WrongAnchor}

module _ {X : Type 0} (P : X → Type 0) (xs : List X) (i : ℕ) where
  -- of one more
  pub all_more : (x : X) → i < length xs → x ≡ get_or xs i x → All P (take i xs) → P x → All P (take (i + 1) xs)
  all_more x low there so_far one = All-more P xs i x low so_far (subst P there one)

  -- of all
  pub all_gone : length xs ≤ i → All P (take i xs) → All P xs
  all_gone high all = subst (λ (l : List X). All P l) (take_all i xs high) all

  -- of this one
  pub any_here : (x : X) → i < length xs → x ≡ get_or xs i x → P x → Any P xs
  any_here x low there one = (i, x, low, sym there, one)

-- ---- the first that is wrong

none_first : (wrong : List WrongAnchor) → [] ≡ first_wrong wrong → wrong ≡ []
none_first [] is = refl
none_first (w ∷ wrong) is = absurd cc

some_first : (wrong more : List WrongAnchor) (file : FileFields) → file ∷ [] ≡ first_wrong wrong → first_wrong (wrong ++ more) ≡ file ∷ []
some_first [] more file is = absurd cc
some_first (w ∷ wrong) more file is = sym is

wrong_more : (parts : List TreePart) (i : ℕ) (part : TreePart) → i < length parts → part ≡ get_or parts i part →
    wrong_of (take (i + 1) parts) ≡ wrong_of (take i parts) ++ wrong_in part.answer
wrong_more parts i part low there =
    ap (λ (l : List TreePart). wrong_of l) (take_more parts i part low ∙ ap (λ (y : TreePart). take i parts ++ y ∷ []) (sym there))
    ∙ flat_map-append (λ part. wrong_in part.answer) (take i parts) (part ∷ [])
    ∙ ap (λ (l : List WrongAnchor). wrong_of (take i parts) ++ l) (append-nil (wrong_in part.answer))

-- none so far, and none in this part
pub none_so_far : (parts : List TreePart) (i : ℕ) (part : TreePart) → i < length parts → part ≡ get_or parts i part →
    wrong_of (take i parts) ≡ [] → [] ≡ first_wrong (wrong_in part.answer) → wrong_of (take (i + 1) parts) ≡ []
none_so_far parts i part low there before none =
    wrong_more parts i part low there ∙ ap (λ (l : List WrongAnchor). l ++ wrong_in part.answer) before ∙
    none_first (wrong_in part.answer) none

split : (parts : List TreePart) (n : ℕ) → wrong_of parts ≡ wrong_of (take n parts) ++ wrong_of (drop n parts)
split parts n =
    ap (λ (l : List TreePart). wrong_of l) (sym (take-append-drop n parts))
    ∙ flat_map-append (λ part. wrong_in part.answer) (take n parts) (drop n parts)

-- none so far, and this is the first in this part
pub first_here : (parts : List TreePart) (i : ℕ) (part : TreePart) (file : FileFields) → i < length parts →
    part ≡ get_or parts i part → wrong_of (take i parts) ≡ [] → file ∷ [] ≡ first_wrong (wrong_in part.answer) →
    file ∷ [] ≡ first_wrong (wrong_of parts)
first_here parts i part file low there before first =
    let front : wrong_of (take (i + 1) parts) ≡ wrong_in part.answer = wrong_more parts i part low there ∙
    ap (λ (l : List WrongAnchor). l ++ wrong_in part.answer) before in
    let whole : wrong_of parts ≡ wrong_in part.answer ++ wrong_of (drop (i + 1) parts) = split parts (i + 1) ∙
    ap (λ (l : List WrongAnchor). l ++ wrong_of (drop (i + 1) parts)) front in
    sym (ap (λ (l : List WrongAnchor). first_wrong l) whole ∙ some_first (wrong_in part.answer) (wrong_of (drop (i + 1) parts)) file first)

-- none at all
pub none_of_all : (parts : List TreePart) (i : ℕ) → length parts ≤ i → wrong_of (take i parts) ≡ [] → [] ≡ first_wrong (wrong_of parts)
none_of_all parts i high none =
    sym (ap (λ (l : List TreePart). first_wrong (wrong_of l)) (sym (take_all i parts high)) ∙
    ap (λ (l : List WrongAnchor). first_wrong l) none)

-- ---- the one that is wrong at a place

module _ (place : ℕ) where
  abbrev pub Finds : List WrongAnchor → Option WrongAnchor
  Finds wrong = find (λ w. w.place == place) wrong

  none_either : (a b : List WrongAnchor) → Finds a ≡ None → Finds b ≡ None → Finds (a ++ b) ≡ None
  none_either a b p q = find-append (λ w. w.place == place) a b ∙ rw (p, q)

  some_behind : (a b : List WrongAnchor) (w : WrongAnchor) → Finds a ≡ None → Finds b ≡ Some w → Finds (a ++ b) ≡ Some w
  some_behind a b w p q = find-append (λ w. w.place == place) a b ∙ rw (p, q)

  some_before : (a b : List WrongAnchor) (w : WrongAnchor) → Finds a ≡ Some w → Finds (a ++ b) ≡ Some w
  some_before a b w p = find-append (λ w. w.place == place) a b ∙ rw p

  pub none_there : (parts : List TreePart) (i : ℕ) (part : TreePart) → i < length parts → part ≡ get_or parts i part →
      Finds (wrong_of (take i parts)) ≡ None → Finds (wrong_in part.answer) ≡ None →
      Finds (wrong_of (take (i + 1) parts)) ≡ None
  none_there parts i part low there before none =
      ap (λ (l : List WrongAnchor). Finds l) (wrong_more parts i part low there) ∙
      none_either (wrong_of (take i parts)) (wrong_in part.answer) before none

  pub some_there : (parts : List TreePart) (i : ℕ) (part : TreePart) (w : WrongAnchor) → i < length parts →
      part ≡ get_or parts i part → Finds (wrong_of (take i parts)) ≡ None → Finds (wrong_in part.answer) ≡ Some w →
      Finds (wrong_of parts) ≡ Some w
  some_there parts i part w low there before one =
      ap (λ (l : List WrongAnchor). Finds l)
      (split parts (i + 1) ∙ ap (λ (l : List WrongAnchor). l ++ wrong_of (drop (i + 1) parts))
      (wrong_more parts i part low there))
      ∙ some_before (wrong_of (take i parts) ++ wrong_in part.answer) (wrong_of (drop (i + 1) parts)) w
      (some_behind (wrong_of (take i parts)) (wrong_in part.answer) w before one)

  pub none_anywhere : (parts : List TreePart) (i : ℕ) → length parts ≤ i → Finds (wrong_of (take i parts)) ≡ None →
      Finds (wrong_of parts) ≡ None
  none_anywhere parts i high none = ap (λ (l : List TreePart). Finds (wrong_of l)) (sym (take_all i parts high)) ∙ none
