-- A walk over extensions that gathers what they say.
use Rattle.std.specs.List.{flat_map}
use Rattle.std.proofs.Common.{◌≡◌, ℕ, List, ◌++◌, Some, None, sym, ap, ◌∙◌, append_assoc, arith}
use Rattle.std.proofs.lemmas.List.{append-nil}
use Rattle.rpki_ext.specs.CertificateExtensions.{ExtensionFields}
use Rattle.rpki_der.specs.Extensions.{Extension, IsExtension, extension_format}
use Rattle.rpki_der.specs.Sequences.{AreEncodings}
use Rattle.rpki_parts.specs.NameTexts.Reading.{values_in}
use Rattle.rpki_der.specs.Sequences.Reading.{Shrinks}
use Rattle.rpki_der.specs.Values.Reading.{value_at}
use Rattle.rpki_der.proofs.ValueReads.{value_shorter}
use Rattle.rpki_parts.proofs.NameTexts.{no_values, one_value}
use Rattle.rpki_text.specs.Facts.{FactFields, facts_in, facts_of}
use Rattle.rpki_text.proofs.Walks.{first_is, none_there}

module _ (f : ExtensionFields) where
  -- what was gathered, and what the extensions of the rest say, is what all say
  abbrev pub IsGathered : List ℕ → List ℕ → List FactFields → Type 0
  IsGathered all rest facts =
      (xs : List Extension) → AreEncodings IsExtension xs all
      → (ys : List Extension) × AreEncodings IsExtension ys rest × (facts_of f xs ≡ facts ++ facts_of f ys)

  module _ (all octets : List ℕ) (facts : List FactFields) (so_far : IsGathered all octets facts) where
    -- with what one more says
    pub one_gathered : (x : Extension) (rest : List ℕ) → extension_format.read octets ≡ Some (x, rest) →
        (more : List FactFields) → more ≡ facts ++ facts_in f x → IsGathered all rest more
    one_gathered x rest read more is xs are =
        let l = so_far xs are in
        let h = first_is octets x rest read l.0 l.1 in
        let said = facts_in f x in (
          h.0,
          h.2,
          l.2 ∙ ap (λ (ys : List Extension). facts ++ facts_of f ys) h.1 ∙
              sym (append_assoc facts said (facts_of f h.0)) ∙ ap (λ (l : List FactFields). l ++ facts_of f h.0)
              (sym is),
        )

    -- where no extension is read
    pub all_gathered : extension_format.read octets ≡ None → (xs : List Extension) → AreEncodings IsExtension xs all → facts ≡ facts_of f xs
    all_gathered none xs are =
        let l = so_far xs are in
        sym (l.2 ∙ ap (λ (ys : List Extension). facts ++ facts_of f ys) (none_there octets none l.0 l.1) ∙ append-nil facts)

-- ---- values with one identifier octet, each of which says something

-- a value is shorter than what it stands in
pub value_shrinks : (tag : ℕ) → Shrinks (value_at tag)
value_shrinks tag octets content rest e = omega (arith, value_shorter tag octets content rest e)

module _ (say : List ℕ → List FactFields) (tag : ℕ) where
  -- what the values in these octets say
  abbrev pub said_in : List ℕ → List FactFields
  said_in octets = flat_map say (values_in (value_at tag) octets)

  -- with what one more says
  pub one_said : (octets content rest : List ℕ) → value_at tag octets ≡ Some (content, rest) →
      (old so_far more : List FactFields) (all : List ℕ) → so_far ++ said_in octets ≡ old ++ said_in all →
      more ≡ so_far ++ say content → more ++ said_in rest ≡ old ++ said_in all
  one_said octets content rest read old so_far more all before is =
      ap (λ (l : List FactFields). l ++ said_in rest) is
      ∙ append_assoc so_far (say content) (said_in rest)
      ∙ ap (λ (l : List (List ℕ)). so_far ++ flat_map say l) (sym (one_value (value_at tag) (value_shrinks tag) octets content rest read))
      ∙ before

  -- at the end
  pub all_said : (octets : List ℕ) → value_at tag octets ≡ None → (old so_far : List FactFields) (all : List ℕ) →
      so_far ++ said_in octets ≡ old ++ said_in all → so_far ≡ old ++ said_in all
  all_said octets none old so_far all before =
      sym (append-nil so_far)
      ∙ ap (λ (l : List (List ℕ)). so_far ++ flat_map say l) (sym (no_values (value_at tag) (value_shrinks tag) octets none))
      ∙ before
