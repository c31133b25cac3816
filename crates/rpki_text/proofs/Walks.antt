-- A walk over extensions, and one of them that has what is looked for.
use Rattle.std.proofs.Common.{◌≡◌, ◌↔◌, ℕ, List, [], ◌∷◌, Some, None, true, refl, sym, ap, subst, ◌∙◌, inl, inr, arith, length}
use Rattle.rpki_der.specs.Extensions.{Extension, IsExtension, extension_format}
use Rattle.rpki_ext.specs.Kinds.{is_of}
use Rattle.rpki_der.specs.Sequences.{AreEncodings}
use Rattle.rpki_der.proofs.ExtensionReads.{extension_reads, extension_shrinks}
use Rattle.rpki_der.proofs.Octets.{nothing, some_is}
use Rattle.rpki_text.specs.Notes.{HaveOne}

-- where no extension is read, there is none
pub none_there : (octets : List ℕ) → extension_format.read octets ≡ None → (xs : List Extension) →
    AreEncodings IsExtension xs octets → xs ≡ []
none_there octets none [] h = refl
none_there octets none (x ∷ xs) (a, b, is, more, e) =
    nothing (x, b) (sym none ∙ ap extension_format.read e ∙ extension_reads.again x a b is)

-- what is read is the first of the extensions
pub first_is : (octets : List ℕ) (x : Extension) (rest : List ℕ) → extension_format.read octets ≡ Some (x, rest) →
    (xs : List Extension) → AreEncodings IsExtension xs octets
    → (more : List Extension) × (xs ≡ x ∷ more) × AreEncodings IsExtension more rest
first_is octets x rest read [] h = absurd (omega (arith, extension_shrinks octets x rest read, ap length h))
first_is octets x rest read (y ∷ ys) (a, b, is, more, e) =
    let again : extension_format.read octets ≡ Some (y, b) = ap extension_format.read e ∙ extension_reads.again y a b is in
    let same : (y, b) ≡ (x, rest) = some_is {A = Extension × List ℕ} (y, b) (x, rest) (sym again ∙ read) in (
      ys,
      ap (λ (p : Extension × List ℕ). p.0 ∷ ys) same,
      subst (λ (p : Extension × List ℕ). AreEncodings IsExtension ys p.1) same more,
    )

module _ (ids : List (List ℕ)) (P : Extension → Type 0) where
  -- among the extensions of all octets one is looked for as long as among those of the rest
  abbrev pub IsLookedFor : List ℕ → List ℕ → Type 0
  IsLookedFor all rest =
      (xs : List Extension) → AreEncodings IsExtension xs all
      → (ys : List Extension) × AreEncodings IsExtension ys rest × (HaveOne ids P xs ↔ HaveOne ids P ys)

  module _ (all octets : List ℕ) (left : IsLookedFor all octets) (xs : List Extension) (are : AreEncodings IsExtension xs all) where
    -- where no extension is read there is none
    pub none_left : extension_format.read octets ≡ None → HaveOne ids P xs → ⊥
    none_left none one =
        let l = left xs are in
        subst (λ (ys : List Extension). HaveOne ids P ys) (none_there octets none l.0 l.1) (l.2.0 one)

    module _ (x : Extension) (rest : List ℕ) (read : extension_format.read octets ≡ Some (x, rest)) where
      -- the first has it
      pub first_has : is_of ids x ≡ true → P x → HaveOne ids P xs
      first_has named has =
          let l = left xs are in
          let f = first_is octets x rest read l.0 l.1 in
          l.2.1 (subst (λ (ys : List Extension). HaveOne ids P ys) (sym f.1) (inl (named, has)))

  -- the first hasn't it
  pub goes_on : (all octets : List ℕ) (left : IsLookedFor all octets) (x : Extension) (rest : List ℕ)
      (read : extension_format.read octets ≡ Some (x, rest))
      → ((is_of ids x ≡ true) × P x → ⊥) → IsLookedFor all rest
  goes_on all octets left x rest read not xs are =
      let l = left xs are in
      let f = first_is octets x rest read l.0 l.1 in
      let to = λ (one : HaveOne ids P xs).
      let here : HaveOne ids P (x ∷ f.0) = subst (λ (ys : List Extension). HaveOne ids P ys) f.1 (l.2.0 one) in
      elim here as (λ _. HaveOne ids P f.0) [ inl has ↦ absurd (not has) | inr more ↦ more ] in
      let back = λ (one : HaveOne ids P f.0). l.2.1 (subst (λ (ys : List Extension). HaveOne ids P ys) (sym f.1) (inr one)) in
      (f.0, f.2, (to, back))
