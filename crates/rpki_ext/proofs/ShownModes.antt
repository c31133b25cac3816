-- The mode that the identifiers of resources show, and the mode of the policy.
use Rattle.std.specs.Prelude.{◌≢◌, is_some}
use Rattle.std.proofs.Common.{List, Option, [], ◌∷◌, Some, None, ◌≡◌, true, cond, ap, refl, sym, subst, inl, inr}
use Rattle.std.proofs.lemmas.Bool.{cases_Bool}
use Rattle.rpki_der.specs.Extensions.{Extension}
use Rattle.rpki_der.specs.Sequences.{IsAtMostOne}
use Rattle.rpki_der.proofs.Octets.{some, some_is, nothing}
use Rattle.rpki_blocks.specs.declared.overclaim.Overclaim.{Overclaim}
use Rattle.rpki_blocks.specs.declared.overclaim.Overclaim.TheVariants.{Refuse, Trim}
use Rattle.rpki_ext.specs.CertificateExtensions.{same_mode, under}
use Rattle.rpki_ext.specs.Kinds.{ExtensionKind, TellsUnder}

same_true : (m n : Overclaim) → same_mode m n ≡ true → m ≡ n
same_true Refuse Refuse e = refl
same_true Refuse Trim e = absurd cc
same_true Trim Refuse e = absurd cc
same_true Trim Trim e = refl

same_self : (m : Overclaim) → same_mode m m ≡ true
same_self Refuse = refl
same_self Trim = refl

module _ {V : Type 0} (kinds : Overclaim → ExtensionKind V) (m : Overclaim) where
  abbrev TellsShown : Extension → Overclaim × V → Type 0
  TellsShown x p = TellsUnder kinds p.0 x p.1

  -- what stands under the shown mode is given under it
  pub under_mode : (xs : List Extension) (v : Option (Overclaim × V)) (w : Option V) → under m v ≡ Some w →
      IsAtMostOne TellsShown xs v → IsAtMostOne (TellsUnder kinds m) xs w
  under_mode [] v w e h = sym (some_is None w (rw h at e))
  under_mode (x ∷ y ∷ xs) v w e h = elim h [ ]
  under_mode (x ∷ []) v w e h =
      let e1 : cond (same_mode h.0.0 m) (some (some h.0.1)) None ≡ some w = rw h.2 at e in
      elim (cases_Bool (same_mode h.0.0 m)) [
        | inl y ↦ (
          h.0.1,
          subst (λ (n : Overclaim). TellsUnder kinds n x h.0.1) (same_true h.0.0 m y) h.1,
          sym (some_is (some h.0.1) w (rw y at e1)),
        )
        | inr n ↦ nothing w (rw n at e1)
      ]

  -- what is given under a mode shows it
  pub mode_under : (xs : List Extension) (w : Option V) → IsAtMostOne (TellsUnder kinds m) xs w →
      (v : Option (Overclaim × V)) × (under m v ≡ Some w) × IsAtMostOne TellsShown xs v
  mode_under [] w h = (None, ap some (sym h), refl)
  mode_under (x ∷ y ∷ xs) w h = elim h [ ]
  mode_under (x ∷ []) w h =
      let shown : Overclaim × V = (m, h.0) in
      (some shown, rw (same_self m, h.2) refl, (shown, h.1, refl))

-- a value stays where its mode is the one
module _ {V : Type 0} (m : Overclaim) where
  -- what was seen stays where the mode is right
  pub stays : (v : Option (Overclaim × V)) (w : Option V) → under m v ≡ Some w → is_some v ≡ true → w ≢ None
  stays None w e y = absurd cc
  stays (Some p) w e y =
      elim (cases_Bool (same_mode p.0 m)) [
        | inl same ↦ let is : some p.1 ≡ w = some_is (some p.1) w (rw same at e) in λ none. absurd cc
        | inr other ↦ nothing w (rw other at e)
      ]

  -- what is there under the mode was seen
  pub was : (v : Option (Overclaim × V)) (w : Option V) → under m v ≡ Some w → w ≢ None → is_some v ≡ true
  was None w e some_value = absurd (some_value (sym (some_is None w e)))
  was (Some p) w e some_value = refl
