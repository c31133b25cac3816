-- Whatever has a walkable path has one on which no issuer comes twice.
use Rattle.std.specs.Prelude.{Bool, Contains}
use Rattle.std.proofs.Common.{◌⊎◌, ◌+◌, ◌-◌, ◌<◌, ◌≤◌, ◌++◌, ℕ, zero, suc, List, length, take, drop, refl, sym, ◌∙◌}
use Rattle.std.proofs.Common.{inl, inr, arith}
use Rattle.std.proofs.lemmas.Bool.{cases_order}
use Rattle.rpki_cert.specs.Verification.{Context}
use Rattle.rpki_path.specs.Asking.{RevocationChecks}
use Rattle.rpki_path.specs.Paths.{Path, last}
use Rattle.rpki_path.specs.Repeats.{HasNoRepeat, AsksByEntity, IsWalkable, IsShortened, without}
use Rattle.rpki_path.proofs.CutPaths.{cut_length, cut_below, cut_from, last_cut, end_cut, holds_last}
use Rattle.rpki_path.proofs.CutPaths.{one_entity_alike, cut_walkable}
use Rattle.rpki_path.proofs.ComparedIssuers.{Repeat, told_repeat}

-- the members of a shorter path are members of the path
kept_member : {X : Type 0} (xs : List X) (i j : ℕ) → i ≤ j → j ≤ length xs → (x : X) →
    Contains (take i xs ++ drop j xs) x → Contains xs x
kept_member xs i j before within x (n, low, is) = elim (cases_order n i) [
  | inl e ↦ let far : i ≤ n = omega (arith, e) in (
    n + (j - i),
    omega (arith, low, cut_length xs i j before within),
    sym (cut_from xs i j before within x n far) ∙ is,
  )
  | inr (inl less) ↦ (
    n,
    omega (arith, low, cut_length xs i j before within),
    sym (cut_below xs i j before within x n less) ∙ is,
  )
  | inr (inr more) ↦ let far : i ≤ n = omega (arith, more) in (
    n + (j - i),
    omega (arith, low, cut_length xs i j before within),
    sym (cut_from xs i j before within x n far) ∙ is,
  )
]

itself : (p : Path) → IsShortened p p
itself p = record {
  anchor_is = refl;
  members = λ m there. there;
  fewer = omega arith;
  end_is = refl;
  holds =
      λ k n held. held;
}

further : (p q r : Path) → IsShortened p q → IsShortened q r → IsShortened p r
further p q r first then = record {
  anchor_is = then.anchor_is ∙ first.anchor_is;
  members = λ m there. first.members m (then.members m there);
  fewer = omega (arith, first.fewer, then.fewer);
  end_is = then.end_is ∙ first.end_is;
  holds = λ k n held. then.holds k n (first.holds k n held);
}

module _ (x : Context) (asked : RevocationChecks) (names : Bool) (by_entity : AsksByEntity names asked) where
  -- what a walkable path has in its place
  pub record Unrepeated (p : Path) : Type 0 where
    pub path : Path
    pub walkable : IsWalkable x asked names path
    pub no_repeat : HasNoRepeat names path
    pub shortened : IsShortened p path

  -- with a repeat the path is cut there
  module _ (p : Path) (walkable : IsWalkable x asked names p) (r : Repeat names p (last p)) where
    ordered : r.first ≤ r.second
    ordered = omega (arith, r.before)

    inside : r.second ≤ last p
    inside = omega (arith, r.within)

    above : r.first ≤ last p
    above = omega (arith, ordered, inside)

    cut_then : IsWalkable x asked names (without p r.first r.second)
    cut_then = cut_walkable p r.first r.second ordered inside names
        (one_entity_alike x asked names p walkable.is_valid r.first r.second above inside r.one) x asked by_entity
        walkable

    cut_shorter : last (without p r.first r.second) < last p
    cut_shorter = omega (arith, last_cut p r.first r.second ordered inside, r.before)

    cut_of : IsShortened p (without p r.first r.second)
    cut_of = record {
      anchor_is = refl;
      members = kept_member p.below r.first r.second ordered inside;
      fewer = omega (arith, cut_shorter);
      end_is = end_cut p r.first r.second ordered inside r.within;
      holds = λ k n held. holds_last p r.first r.second ordered inside k n held;
    }

  within_length : (most : ℕ) (p : Path) → last p ≤ most → IsWalkable x asked names p →
      Repeat names p (last p) ⊎ HasNoRepeat names p → Unrepeated p
  within_length most p short walkable (inr none) =
      record { path = p; walkable = walkable; no_repeat = none; shortened = itself p }
  within_length zero p short walkable (inl r) = absurd (omega (arith, short, r.within))
  within_length (suc most) p short walkable (inl r) =
      let q = without p r.first r.second in
      let less : last q ≤ most = omega (arith, short, cut_shorter p walkable r) in
      let rest = within_length most q less (cut_then p walkable r) (told_repeat names q (last q)) in
      record {
        path = rest.path;
        walkable = rest.walkable;
        no_repeat = rest.no_repeat;
        shortened = further p q rest.path (cut_of p walkable r) rest.shortened;
      }

  pub unrepeated : (p : Path) → IsWalkable x asked names p → Unrepeated p
  unrepeated p walkable = let all : last p ≤ last p = omega arith in
      within_length (last p) p all walkable (told_repeat names p (last p))
