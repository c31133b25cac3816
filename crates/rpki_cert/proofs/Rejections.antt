-- The certificate that octets begin with has one frame, so at most one reason is in the way of
-- rearranging it.
use Rattle.std.specs.List.{concat}
use Rattle.std.proofs.Common.{◌≡◌, ◌⊎◌, ℕ, ◌^◌, ◌<◌, List, [], ◌∷◌, ◌++◌, length, refl, sym, ap, subst, ◌∙◌, arith, inl, inr}
use Rattle.std.proofs.lemmas.List.{same_from_push}
use Rattle.rpki_der.specs.Encoding.{Means}
use Rattle.rpki_der.specs.Tags.{CONTEXT_CONSTRUCTED, SEQUENCE}
use Rattle.rpki_der.specs.Values.{IsEnc, IsNested, IsValue}
use Rattle.rpki_der.proofs.Formats.{of_enc, same_enc}
use Rattle.rpki_der.proofs.Lists.{weaken}
use Rattle.rpki_der.proofs.Values.{one_value, one_row}
use Rattle.rpki_cert.specs.Certificates.{CertFields, IsCertificate}
use Rattle.rpki_cert.specs.Rearranged.{IsBuiltOf, IsSomeExtension}
use Rattle.rpki_cert.specs.Rearranging.{BeginsWith, IsPlan, IsRearranged, IsRejected, Parts, content_with, new_extensions}
use Rattle.rpki_cert.specs.declared.extra.Extra.{Extra}
use Rattle.rpki_cert.specs.declared.rearrange_error.RearrangeError.{RearrangeError}
use Rattle.rpki_cert.specs.declared.rearrange_error.RearrangeError.TheVariants.{NoCertificate, NotAnOrder, KnownExtra, TooLong, Memory}
use Rattle.rpki_cert.proofs.CertificateParts.{concat_push}
use Rattle.rpki_cert.proofs.RearrangedCertificates.{some_value}
use Rattle.rpki_cert.proofs.Reordering.{all_append}

-- ---- one frame

module _ (octets : List ℕ) (p q : Parts) (b : BeginsWith octets p) (c : BeginsWith octets q) where
  fronts : b.front ≡ c.front
  fronts = (one_value b.front c.front b.rest c.rest (of_enc b.built.whole) (of_enc c.built.whole) (sym b.octets_are ∙ c.octets_are)).0

  insides : (b.built.tbs ≡ c.built.tbs) × (p.behind ≡ q.behind)
  insides =
      let same : b.built.tbs ++ p.behind ≡ c.built.tbs ++ q.behind =
      (same_enc b.built.whole
      (subst (λ (f : List ℕ). IsEnc SEQUENCE (c.built.tbs ++ q.behind) f) (sym fronts) c.built.whole)).1 in
      one_value b.built.tbs c.built.tbs p.behind q.behind (of_enc b.built.tbs_is) (of_enc c.built.tbs_is) same

  ends : (p.before ≡ q.before) × (b.built.extensions ≡ c.built.extensions)
  ends =
      let same : concat p.before ++ b.built.extensions ≡ concat q.before ++ c.built.extensions =
      (same_enc b.built.tbs_is
      (subst (λ (t : List ℕ). IsEnc SEQUENCE (concat q.before ++ c.built.extensions) t) (sym insides.0)
      c.built.tbs_is)).1 in
      let left = all_append IsValue p.before (b.built.extensions ∷ []) b.built.before_are (of_enc b.built.extensions_is.1, tt) in
      let right = all_append IsValue q.before (c.built.extensions ∷ []) c.built.before_are (of_enc c.built.extensions_is.1, tt) in
      let values : p.before ++ b.built.extensions ∷ [] ≡ q.before ++ c.built.extensions ∷ [] =
      one_row (p.before ++ b.built.extensions ∷ []) (q.before ++ c.built.extensions ∷ []) left right
      (concat_push p.before b.built.extensions ∙ same ∙ sym (concat_push q.before c.built.extensions)) in
      same_from_push p.before q.before b.built.extensions c.built.extensions values

  olds : p.old ≡ q.old
  olds =
      let x = b.built.extensions_is in
      let y : IsNested (CONTEXT_CONSTRUCTED 3 ∷ SEQUENCE ∷ []) (concat q.old) b.built.extensions =
      subst (λ (e : List ℕ). IsNested (CONTEXT_CONSTRUCTED 3 ∷ SEQUENCE ∷ []) (concat q.old) e) (sym ends.1)
      c.built.extensions_is in
      let outer : x.0 ≡ y.0 = (same_enc x.1 y.1).1 in
      let same : concat p.old ≡ concat q.old = sym x.2.2 ∙
      (same_enc x.2.1 (subst (λ (i : List ℕ). IsEnc SEQUENCE y.2.0 i) (sym outer) y.2.1)).1 ∙ y.2.2 in
      one_row p.old q.old (weaken IsSomeExtension IsValue some_value p.old b.extensions_are)
      (weaken IsSomeExtension IsValue some_value q.old c.extensions_are) same

  -- both are the same parts
  pub one_frame : p ≡ q
  one_frame =
      let same : (p.before, (p.old, p.behind)) ≡ (q.before, (q.old, q.behind)) = cc (ends.0, olds, insides.1) in
      ap (λ (x : List (List ℕ) × (List (List ℕ) × List ℕ)). record { before = x.0; old = x.1.0; behind = x.1.1 }) same

-- ---- one reason

module _ (octets order : List ℕ) (extras : List Extra) where
  abbrev Planned : Parts → Type 0
  Planned p = IsPlan (length p.old) order extras

  begun : (p : Parts) → BeginsWith octets p → ((c : CertFields) → Means IsCertificate c octets → ⊥) → ⊥
  begun p b none = none b.certificate (b.rest, record { text = b.front; encoded = b.certificate_is; parts = b.octets_are })

  planned : (p q : Parts) → BeginsWith octets p → BeginsWith octets q → Planned p → Planned q
  planned p q b c plan = subst Planned (one_frame octets p q b c) plan

  -- two reasons are one, if none of them is memory
  pub one_reason : (e d : RearrangeError) → IsRejected octets order extras e → IsRejected octets order extras d →
      (e ≡ Memory → ⊥) → (d ≡ Memory) ⊎ (d ≡ e)
  one_reason e Memory h g other = inl refl
  one_reason Memory d h g other = absurd (other refl)
  one_reason NoCertificate NoCertificate h g other = inr refl
  one_reason NoCertificate NotAnOrder h g other = absurd (begun g.0 g.1 h)
  one_reason NoCertificate KnownExtra h g other = absurd (begun g.0 g.1 h)
  one_reason NoCertificate TooLong h g other = absurd (begun g.0 g.1 h)
  one_reason NotAnOrder NoCertificate h g other = absurd (begun h.0 h.1 g)
  one_reason NotAnOrder NotAnOrder h g other = inr refl
  one_reason NotAnOrder KnownExtra h g other = absurd (h.2 (planned g.0 h.0 g.1 h.1 g.2))
  one_reason NotAnOrder TooLong h g other = absurd (h.2 (planned g.0 h.0 g.1 h.1 g.2))
  one_reason KnownExtra NoCertificate h g other = absurd (begun h.0 h.1 g)
  one_reason KnownExtra NotAnOrder h g other = absurd (g.2 (planned h.0 g.0 h.1 g.1 h.2))
  one_reason KnownExtra KnownExtra h g other = inr refl
  one_reason KnownExtra TooLong h g other = absurd (h.3 g.3)
  one_reason TooLong NoCertificate h g other = absurd (begun h.0 h.1 g)
  one_reason TooLong NotAnOrder h g other = absurd (g.2 (planned h.0 g.0 h.1 g.1 h.2))
  one_reason TooLong KnownExtra h g other = absurd (g.3 h.3)
  one_reason TooLong TooLong h g other = inr refl

  -- what is built of parts fits
  built_fits : (p : Parts) (elements : List (List ℕ)) (answer : List ℕ) →
      IsBuiltOf p.before elements p.behind answer → length (content_with (concat elements) p) < 2 ^ 32
  built_fits p elements answer b =
      let e = b.extensions_is in
      rw (b.tbs_is.is, e.1.is, e.2.1.is, e.2.2) at b.whole.short

  -- where there is an answer, none is in the way
  pub no_reason : (answer : List ℕ) (e : RearrangeError) → IsRearranged octets order extras answer →
      IsRejected octets order extras e → (e ≡ Memory → ⊥) → ⊥
  no_reason answer NoCertificate a h other = begun a.parts a.begins h
  no_reason answer NotAnOrder a h other = h.2 (planned a.parts h.0 a.begins h.1 a.plan)
  no_reason answer KnownExtra a h other = h.3 a.unknown
  no_reason answer TooLong a h other =
      let fits = built_fits a.parts (new_extensions order extras a.parts.old) answer a.built in
      let same : a.parts ≡ h.0 = one_frame octets a.parts h.0 a.begins h.1 in
      let short : length (content_with (concat (new_extensions order extras h.0.old)) h.0) < 2 ^ 32 =
      subst (λ (p : Parts). length (content_with (concat (new_extensions order extras p.old)) p) < 2 ^ 32) same
      fits in
      omega (arith, short, h.4)
  no_reason answer Memory a h other = other refl
