-- A walk over extensions, one of which has the identifier of one before it.
use Rattle.std.specs.Borrow.{Bor}
use Rattle.std.specs.BTreeMap.{is_at}
use Rattle.std.specs.BTreeSet.{BTreeSet, contains}
use Rattle.std.specs.Cmp.Lexicographic.{slice_cmp}
use Rattle.std.specs.List.{list_any}
use Rattle.std.specs.Ordering.{nat_cmp, is_eq}
use Rattle.std.specs.Prelude.{bytes_eq, not}
use Rattle.std.proofs.Common.{◌≡◌, ◌↔◌, ◌||◌, ℕ, Bool, cond, List, [], ◌∷◌, Some, None, true, false, refl, sym, ap, subst, ◌∙◌, inl, inr}
use Rattle.std.proofs.lemmas.Bool.{true≢false}
use Rattle.std.proofs.lemmas.Map.Text.{is_eq-slice_cmp}
use Rattle.rpki_der.specs.Extensions.{Extension, IsExtension, extension_format}
use Rattle.rpki_der.specs.Sequences.{AreEncodings}
use Rattle.rpki_text.specs.Notes.{HaveAgain}
use Rattle.rpki_text.proofs.Walks.{first_is, none_there}

-- one of these is the identifier
abbrev pub is_before : List (List ℕ) → List ℕ → Bool
is_before before id = list_any (λ other. bytes_eq other id) before

-- the set has these identifiers
abbrev pub AreBefore : List (List ℕ) → BTreeSet (Bor (List ℕ)) → Type 0
AreBefore before set = (id : Bor (List ℕ)) → contains (λ x y. slice_cmp nat_cmp x.now y.now) set id ≡ is_before before id.now

-- ---- the set

-- without keys
pub none_before : (set : BTreeSet (Bor (List ℕ))) → set.keys ≡ [] → AreBefore [] set
none_before set none id =
    ap (λ (keys : List (Bor (List ℕ))). list_any (is_at (λ (y : Bor (List ℕ)). slice_cmp nat_cmp id.now y.now))
    keys) none

-- what a key is told of that is new, or isn't
pub not_there : (there new : Bool) → new ≡ not there → new ≡ true → there ≡ false
not_there true new is h = absurd (true≢false (sym h ∙ is))
not_there false new is h = refl

pub is_there : (there new : Bool) → new ≡ not there → new ≡ false → there ≡ true
is_there true new is h = refl
is_there false new is h = absurd (true≢false (sym is ∙ h))

-- with one more

either_is : (b y : Bool) → cond b true y ≡ (b || y)
either_is true y = refl
either_is false y = refl

either : (a b x y : Bool) → a ≡ b → x ≡ y → cond a true x ≡ (b || y)
either a b x y e f = ap (λ (c : Bool). cond c true x) e ∙ ap (λ (z : Bool). cond b true z) f ∙ either_is b y

pub one_before : (before : List (List ℕ)) (set new : BTreeSet (Bor (List ℕ))) (key : Bor (List ℕ)) → AreBefore before set
    → ((id : Bor (List ℕ)) → contains (λ x y. slice_cmp nat_cmp x.now y.now) new id ≡
    cond (is_eq (slice_cmp nat_cmp key.now id.now)) true
    (contains (λ x y. slice_cmp nat_cmp x.now y.now) set id))
    → AreBefore (key.now ∷ before) new
one_before before set new key are has id =
    has id ∙ either (is_eq (slice_cmp nat_cmp key.now id.now)) (bytes_eq key.now id.now) _ (is_before before id.now)
    (is_eq-slice_cmp key.now id.now) (are id)

-- ---- the walk

-- one of all extensions is there again exactly if one of the rest is, behind these
abbrev pub IsLeftAfter : List (List ℕ) → List ℕ → List ℕ → Type 0
IsLeftAfter before all rest =
    (xs : List Extension) → AreEncodings IsExtension xs all
    → (ys : List Extension) × AreEncodings IsExtension ys rest × (HaveAgain [] xs ↔ HaveAgain before ys)

pub all_left : (octets : List ℕ) → IsLeftAfter [] octets octets
all_left octets xs are = (xs, are, ((λ again. again), (λ again. again)))

module _ (before : List (List ℕ)) (all octets : List ℕ) (left : IsLeftAfter before all octets) where
  -- where no extension is read there is none
  pub none_again : extension_format.read octets ≡ None → (xs : List Extension) → AreEncodings IsExtension xs all → HaveAgain [] xs → ⊥
  none_again none xs are again =
      let l = left xs are in
      subst (λ (ys : List Extension). HaveAgain before ys) (none_there octets none l.0 l.1) (l.2.0 again)

  module _ (x : Extension) (rest : List ℕ) (read : extension_format.read octets ≡ Some (x, rest)) where
    -- the first is there again
    pub first_again : is_before before x.identifier ≡ true → (xs : List Extension) → AreEncodings IsExtension xs all → HaveAgain [] xs
    first_again there xs are =
        let l = left xs are in
        let f = first_is octets x rest read l.0 l.1 in
        l.2.1 (subst (λ (ys : List Extension). HaveAgain before ys) (sym f.1) (inl there))

    -- the first isn't
    pub goes_on_after : (is_before before x.identifier ≡ true → ⊥) → IsLeftAfter (x.identifier ∷ before) all rest
    goes_on_after not xs are =
        let l = left xs are in
        let f = first_is octets x rest read l.0 l.1 in
        let to = λ (again : HaveAgain [] xs).
        let here : HaveAgain before (x ∷ f.0) = subst (λ (ys : List Extension). HaveAgain before ys) f.1 (l.2.0 again) in
        elim here as (λ _. HaveAgain (x.identifier ∷ before) f.0) [ inl there ↦ absurd (not there) | inr more ↦ more ] in
        let back = λ (again : HaveAgain (x.identifier ∷ before) f.0).
        l.2.1 (subst (λ (ys : List Extension). HaveAgain before ys) (sym f.1) (inr again)) in
        (f.0, f.2, (to, back))
