-- Whether one of the extensions at the front is one that is looked for, and where extensions stand.
use Rattle.std.proofs.Common.{◌≡◌, ◌↔◌, ◌<◌, ℕ, List, [], ◌∷◌, ◌++◌, length, Option, Some, refl, sym, ap, subst, ◌∙◌}
use Rattle.std.proofs.Common.{inl, inr, append_assoc, arith}
use Rattle.rpki_der.specs.Encoding.{Begins, Means}
use Rattle.rpki_der.specs.Extensions.{Extension, IsExtension, extension_format}
use Rattle.rpki_der.specs.Reading.{Inside, inside}
use Rattle.rpki_der.specs.Sequences.{AreEncodings}
use Rattle.rpki_der.specs.Tags.{SEQUENCE}
use Rattle.rpki_der.specs.Values.{AreOctets, IsEnc}
use Rattle.rpki_der.specs.Values.Reading.{◌>>=◌, value_at}
use Rattle.rpki_der.proofs.ExtensionReads.{extension_reads, extension_shrinks}
use Rattle.rpki_der.proofs.Octets.{AreOctets-after, bind_some, some, some_is}
use Rattle.rpki_der.proofs.Readings.{inside_reads}
use Rattle.rpki_der.proofs.ValueReads.{value_reads}
use Rattle.rpki_files.specs.PolicyPresence.{AreAnyExtensions, BeginsWithOne, IsWanted, StandBefore, tags_before, HasExtensions}
use Rattle.rpki_files.specs.PolicyPresence.Reading.{behind, rest_at, extensions_at}
use Rattle.rpki_files.specs.declared.policies.Wanted.{Wanted}

-- ---- extensions at the front

module _ (wanted : Wanted) (octets : List ℕ) where
  -- the first of them, and what stands behind it
  first_is : (xs : List Extension) (v : Extension) (h : Means (AreEncodings IsExtension) (v ∷ xs) octets) →
      (b : List ℕ) × (extension_format.read octets ≡ Some (v, b)) × Means (AreEncodings IsExtension) xs b
  first_is xs v h =
      let text = h.1.text in
      let s = h.1.encoded in
      let whole : octets ≡ s.0 ++ (s.1 ++ h.0) = h.1.parts ∙ ap (λ (t : List ℕ). t ++ h.0) s.4 ∙ append_assoc s.0 s.1 h.0 in (
        s.1 ++ h.0,
        ap extension_format.read whole ∙ extension_reads.again v s.0 (s.1 ++ h.0) s.2,
        (h.0, record { text = s.1; encoded = s.3; parts = refl }),
      )

  -- none stands there
  pub none_there : ((x : Extension) (rest : List ℕ) → Begins IsExtension octets x rest → ⊥) → BeginsWithOne wanted octets → ⊥
  none_there none ([], means, among) = among
  none_there none (v ∷ xs, means, among) =
      let s = means.1.encoded in
      none v (s.1 ++ means.0)
      (record {
        text = s.0;
        encoded = s.2;
        parts = means.1.parts ∙ ap (λ (t : List ℕ). t ++ means.0) s.4 ∙
            append_assoc s.0 s.1 means.0;
      })

  module _ (x : Extension) (rest : List ℕ) (begins : Begins IsExtension octets x rest) where
    one_more : (xs : List Extension) → Means (AreEncodings IsExtension) xs rest → Means (AreEncodings IsExtension) (x ∷ xs) octets
    one_more xs m = (
      m.0,
      record {
        text = begins.text ++ m.1.text;
        encoded = (begins.text, m.1.text, begins.encoded, m.1.encoded, refl);
        parts = begins.parts ∙ ap (λ (t : List ℕ). begins.text ++ t) m.1.parts ∙ sym (append_assoc begins.text m.1.text m.0);
      },
    )

    -- the first is one
    pub first_has : IsWanted wanted x.identifier x.content → BeginsWithOne wanted octets
    first_has is = (x ∷ [], one_more [] (rest, record { text = []; encoded = refl; parts = refl }), inl is)

    -- the first is none
    module _ (read : extension_format.read octets ≡ Some (x, rest)) (other : IsWanted wanted x.identifier x.content → ⊥) where
      rest_has : BeginsWithOne wanted octets → BeginsWithOne wanted rest
      rest_has ([], means, among) = absurd among
      rest_has (v ∷ xs, means, among) =
          let f = first_is xs v means in
          let both : (v, f.0) ≡ (x, rest) = some_is {A = Extension × List ℕ} (v, f.0) (x, rest) (sym f.1 ∙ read) in
          let same_first : v ≡ x = ap (λ (p : Extension × List ℕ). p.0) both in
          let same_rest : f.0 ≡ rest = ap (λ (p : Extension × List ℕ). p.1) both in
          elim among [
            | inl is ↦ absurd (other (subst (λ (y : Extension). IsWanted wanted y.identifier y.content) same_first is))
            | inr more ↦ (xs, subst (λ (b : List ℕ). Means (AreEncodings IsExtension) xs b) same_rest f.2, more)
          ]

      pub others_have : BeginsWithOne wanted octets ↔ BeginsWithOne wanted rest
      others_have = (rest_has, λ h. (x ∷ h.0, one_more h.0 h.1, inr h.2))

-- no octets have none
pub none_of_nothing : (wanted : Wanted) (octets : List ℕ) → length octets < 1 → BeginsWithOne wanted octets → ⊥
none_of_nothing wanted octets few ([], means, among) = among
none_of_nothing wanted octets few (v ∷ xs, means, among) =
    let f = first_is wanted octets xs v means in
    omega (arith, few, extension_shrinks octets v f.0 f.1)

-- ---- extensions, and nothing else

module _ (octets : List ℕ) where
  -- none stands at the front of octets that are some
  pub no_extensions : (octets ≡ [] → ⊥) → ((x : Extension) (rest : List ℕ) → Begins IsExtension octets x rest → ⊥) →
      AreAnyExtensions octets → ⊥
  no_extensions some none ([], are) = some are
  no_extensions some none (v ∷ xs, s) = none v s.1 (record { text = s.0; encoded = s.2; parts = s.4 })

  -- what stands behind the first
  rest_are : (x : Extension) (rest : List ℕ) → extension_format.read octets ≡ Some (x, rest) →
      AreAnyExtensions octets → AreAnyExtensions rest
  rest_are x rest read ([], are) =
      let empty : length octets ≡ 0 = ap length are in
      absurd (omega (arith, empty, extension_shrinks octets x rest read))
  rest_are x rest read (v ∷ xs, s) =
      let again : extension_format.read octets ≡ Some (v, s.1) = ap extension_format.read s.4 ∙ extension_reads.again v s.0 s.1 s.2 in
      let same = ap (λ (p : Extension × List ℕ). p.1) (some_is {A = Extension × List ℕ} (v, s.1) (x, rest) (sym again ∙ read)) in
      (xs, subst (AreEncodings IsExtension xs) same s.3)

  -- the first one aside
  pub are_more : (x : Extension) (rest : List ℕ) → Begins IsExtension octets x rest →
      extension_format.read octets ≡ Some (x, rest) → AreAnyExtensions rest ↔ AreAnyExtensions octets
  are_more x rest begins read = ((λ are. (x ∷ are.0, (begins.text, rest, begins.encoded, are.1, begins.parts))), rest_are x rest read)

-- no octets are no extensions
pub are_none : (octets : List ℕ) → length octets < 1 → AreAnyExtensions octets
are_none [] few = ([], refl)
are_none (octet ∷ octets) few = absurd (omega arith)

-- ---- where extensions stand

behind_takes : (tags octets rest : List ℕ) → AreOctets octets → behind tags octets ≡ Some rest →
    StandBefore tags rest octets × AreOctets rest
behind_takes [] octets rest fits e = let same = some_is octets rest e in (same, subst AreOctets same fits)
behind_takes (tag ∷ tags) octets rest fits e =
    let v = bind_some (value_at tag octets) (λ (v : List ℕ × List ℕ). behind tags v.1) rest e in
    let begins = (value_reads tag).takes octets v.0.0 v.0.1 fits v.1 in
    let more = behind_takes tags v.0.1 rest (AreOctets-after octets begins.text v.0.1 begins.parts fits) v.2 in
    ((v.0.0, v.0.1, begins, more.0), more.1)

behind_again : (tags octets rest : List ℕ) → StandBefore tags rest octets → behind tags octets ≡ Some rest
behind_again [] octets rest is = ap some is
behind_again (tag ∷ tags) octets rest (content, more, begins, stand) =
    let read = ap (value_at tag) begins.parts ∙ (value_reads tag).again content begins.text more begins.encoded in
    ap (λ (r : Option (List ℕ × List ℕ)). r >>= λ v. behind tags v.1) read ∙ behind_again tags more rest stand

value_there : (t : ℕ) (octets content : List ℕ) → Means (IsEnc t) content octets →
    (rest : List ℕ) × (value_at t octets ≡ Some (content, rest))
value_there t octets content m = (m.0, ap (value_at t) m.1.parts ∙ (value_reads t).again content m.1.text m.0 m.1.encoded)

elements_there : (rest elements : List ℕ) → AreOctets rest →
    (inside 0xA3 (value_at SEQUENCE) rest >>= λ v. Some v.0) ≡ Some elements →
    Means (Inside 0xA3 (IsEnc SEQUENCE)) elements rest
elements_there rest elements fits e =
    let v = bind_some (inside 0xA3 (value_at SEQUENCE) rest) (λ (v : List ℕ × List ℕ). Some v.0) elements e in
    let found = (inside_reads 0xA3 (value_at SEQUENCE) (IsEnc SEQUENCE) (value_reads SEQUENCE)).takes rest v.0.0 v.0.1 fits v.1 in
    subst (λ (x : List ℕ). Means (Inside 0xA3 (IsEnc SEQUENCE)) x rest) (some_is v.0.0 elements v.2) (v.0.1, found)

module _ (octets elements : List ℕ) where
  -- what is found stands there
  pub extensions_take : AreOctets octets → extensions_at octets ≡ Some elements → HasExtensions elements octets
  unfolding extensions_at rest_at
  extensions_take fits e =
      let signed_on : List ℕ × List ℕ → Option (List ℕ) = λ signed. behind tags_before signed.0 >>= λ rest.
      inside 0xA3 (value_at SEQUENCE) rest >>= λ v. Some v.0 in
      let w = bind_some (value_at SEQUENCE octets) (λ (whole : List ℕ × List ℕ). value_at SEQUENCE whole.0 >>= signed_on) elements e in
      let s = bind_some (value_at SEQUENCE w.0.0) signed_on elements w.2 in
      let r = bind_some (behind tags_before s.0.0)
      (λ (rest : List ℕ). inside 0xA3 (value_at SEQUENCE) rest >>= λ v. Some v.0) elements s.2 in
      let whole = (value_reads SEQUENCE).takes octets w.0.0 w.0.1 fits w.1 in
      let signed = (value_reads SEQUENCE).takes w.0.0 s.0.0 s.0.1 whole.encoded.octets s.1 in
      let fields = behind_takes tags_before s.0.0 r.0 signed.encoded.octets r.1 in
      record {
        whole = w.0.0;
        data_is = s.0.0;
        rest = r.0;
        begins = (w.0.1, whole);
        data_begins = (s.0.1, signed);
        fields_before = fields.0;
        elements_begin = elements_there r.0 elements fields.1 r.2;
      }

  -- what stands there is found
  pub extensions_again : HasExtensions elements octets → extensions_at octets ≡ Some elements
  unfolding extensions_at rest_at
  extensions_again h =
      let w = value_there SEQUENCE octets h.whole h.begins in
      let s = value_there SEQUENCE h.whole h.data_is h.data_begins in
      let r = behind_again tags_before h.data_is h.rest h.fields_before in
      let b = h.elements_begin.1 in
      let v : inside 0xA3 (value_at SEQUENCE) h.rest ≡ Some (elements, h.elements_begin.0) =
      ap (inside 0xA3 (value_at SEQUENCE)) b.parts ∙
      (inside_reads 0xA3 (value_at SEQUENCE) (IsEnc SEQUENCE) (value_reads SEQUENCE)).again elements b.text
      h.elements_begin.0 b.encoded in
      rw (w.1, s.1, r, v) refl
