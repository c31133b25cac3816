-- What extensions of a kind tell, both ways.
use Rattle.std.proofs.Common.{◌≡◌, ℕ, true, false, List, Option, Some, refl, ap, subst, ◌∙◌, inl, inr}
use Rattle.std.specs.Prelude.{bytes_eq}
use Rattle.std.proofs.lemmas.Bool.{cases_Bool}
use Rattle.std.proofs.lemmas.Slice.Eq.{bytes_eq-Decides}
use Rattle.rpki_der.specs.Values.{AreOctets}
use Rattle.rpki_der.specs.Values.Reading.{◌>>=◌}
use Rattle.rpki_der.specs.Reading.{Reads}
use Rattle.rpki_der.proofs.Octets.{bind_some, some, some_is, nothing}
use Rattle.rpki_blocks.specs.declared.overclaim.Overclaim.{Overclaim}
use Rattle.rpki_blocks.specs.declared.overclaim.Overclaim.TheVariants.{Refuse, Trim}
use Rattle.rpki_ext.specs.Kinds.{Means, Flag, IsFlagFor, ExtensionKind, is_of, identifiers, Tells}
use Rattle.rpki_ext.specs.Kinds.{identifiers_by_mode, TellsUnder, required, untested}
use Rattle.rpki_der.specs.Extensions.{Extension}
use Rattle.rpki_der.specs.Folding.{IsGiven, IsLawful}
use Rattle.rpki_der.proofs.ExtensionReads.{HasOctets}
use Rattle.rpki_ext.specs.Kinds.Reading.{front, if_flagged, told, kind_fold, mode_by, told_with_mode, modes_fold}
use Rattle.rpki_der.proofs.Folding.{once_law}

-- ---- what an extension tells

module _ {V : Type 0} (read : List ℕ → Option (V × List ℕ)) (encodes : V → List ℕ → Type 0) (law : Reads read encodes) where
  -- what is read of a content's front is what the content means
  pub front_takes : (c : List ℕ) (v : V) → AreOctets c → front read c ≡ Some v → Means encodes v c
  front_takes c v low e =
      let a = bind_some (read c) (λ x. some x.0) v e in
      let b = law.takes c a.0.0 a.0.1 low a.1 in
      subst (λ (w : V). Means encodes w c) (some_is a.0.0 v a.2) (a.0.1, b)

  -- what a content means is read of its front
  pub front_again : (c : List ℕ) (v : V) → Means encodes v c → front read c ≡ Some v
  front_again c v m = rw (m.1.parts, law.again v m.1.text m.0 m.1.encoded) refl

module _ {V : Type 0} (kind : ExtensionKind V) (law : Reads kind.format.read kind.format.encodes) where
  flag_takes : (flag : Flag) (x : Extension) (v : V) → HasOctets x →
      if_flagged flag x.critical (front kind.format.read x.content) ≡ Some v →
      IsFlagFor flag x.critical × Means kind.format.encodes v x.content
  flag_takes (untested written) x v low e = (tt, front_takes kind.format.read kind.format.encodes law x.content v low e)
  flag_takes (required true) x v low e =
      elim (cases_Bool x.critical) [
        | inl y ↦ (y, front_takes kind.format.read kind.format.encodes law x.content v low (rw y at e))
        | inr n ↦ nothing v (rw n at e)
      ]
  flag_takes (required false) x v low e =
      elim (cases_Bool x.critical) [
        | inl y ↦ nothing v (rw y at e)
        | inr n ↦ (n, front_takes kind.format.read kind.format.encodes law x.content v low (rw n at e))
      ]

  flag_again : (flag : Flag) (x : Extension) (v : V) →
      IsFlagFor flag x.critical × Means kind.format.encodes v x.content →
      if_flagged flag x.critical (front kind.format.read x.content) ≡ Some v
  flag_again (untested written) x v h = front_again kind.format.read kind.format.encodes law x.content v h.1
  flag_again (required true) x v h = rw h.0 (front_again kind.format.read kind.format.encodes law x.content v h.1)
  flag_again (required false) x v h = rw h.0 (front_again kind.format.read kind.format.encodes law x.content v h.1)

  -- what is read of an extension is what it tells
  pub tells : IsGiven HasOctets (told kind) (Tells kind)
  tells = record { takes = flag_takes kind.flag; again = flag_again kind.flag }

  -- the step of a kind is lawful
  pub kind_law : IsLawful HasOctets (kind_fold kind)
  kind_law = once_law (is_of (identifiers kind)) (told kind) (Tells kind) tells

-- ---- kinds with an identifier for each mode

module _ {V : Type 0} (kinds : Overclaim → ExtensionKind V) where
  mode_is : (id : List ℕ) (m : Overclaim) → mode_by kinds id ≡ Some m → id ≡ (kinds m).identifier
  mode_is id m e =
      elim (cases_Bool (bytes_eq id (kinds Refuse).identifier)) [
        | inl y ↦ (bytes_eq-Decides id (kinds Refuse).identifier).0 y ∙ ap (λ (n : Overclaim). (kinds n).identifier)
            (some_is Refuse m (rw y at e))
        | inr n ↦ elim (cases_Bool (bytes_eq id (kinds Trim).identifier)) [
          | inl y ↦ (bytes_eq-Decides id (kinds Trim).identifier).0 y ∙ ap (λ (n : Overclaim). (kinds n).identifier)
              (some_is Trim m (rw (n, y) at e))
          | inr k ↦ nothing m (rw (n, k) at e)
        ]
      ]

  -- each identifier shows its mode
  abbrev pub ShowsMode : Type 0
  ShowsMode = (m : Overclaim) → mode_by kinds (kinds m).identifier ≡ Some m

  -- the step of a kind with modes is lawful where the identifier shows the mode
  pub modes_law : ShowsMode → ((m : Overclaim) → Reads (kinds m).format.read (kinds m).format.encodes) →
      IsLawful HasOctets (modes_fold kinds)
  modes_law shows law = once_law (is_of (identifiers_by_mode kinds)) (told_with_mode kinds) (λ x v. TellsUnder kinds v.0 x v.1) (record {
    takes = λ x v low e.
        let a = bind_some (mode_by kinds x.identifier) (λ m. told (kinds m) x >>= λ c. some {A = Overclaim × V} (m, c)) v e in
        let b = bind_some (told (kinds a.0) x) (λ c. some {A = Overclaim × V} (a.0, c)) v a.2 in
        let made : Overclaim × V = (a.0, b.0) in
        subst (λ (w : Overclaim × V). TellsUnder kinds w.0 x w.1) (some_is made v b.2)
        (mode_is x.identifier a.0 a.1, (tells (kinds a.0) (law a.0)).takes x b.0 low b.1);
    again = λ x v h. rw (h.0, shows v.0, (tells (kinds v.0) (law v.0)).again x v.1 h.1) refl;
  })
