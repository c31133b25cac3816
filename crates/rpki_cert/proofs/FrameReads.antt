-- What a certificate is built of is what is read of it.
use Rattle.std.specs.List.{AllByRecursion, AllZip, concat}
use Rattle.std.specs.Prelude.{IfOk, IfErr}
use Rattle.std.proofs.Common.{◌≡◌, ◌-◌, ℕ, List, [], ◌∷◌, ◌++◌, length, take, Some, Result, Ok, Err, refl, sym, ap, subst, ◌∙◌, arith}
use Rattle.std.proofs.lemmas.List.{append-nil}
use Rattle.rpki_der.specs.Extensions.{Extension, IsExtension}
use Rattle.rpki_der.specs.Place.{Rejects}
use Rattle.rpki_der.specs.Place.Reading.{ReturnsOrMemoryBy}
use Rattle.rpki_der.specs.Sequences.{AreEncodings}
use Rattle.rpki_der.specs.Sequences.Reading.{sequence_of, Shrinks}
use Rattle.rpki_der.specs.Skipping.{IsCaptured, levels}
use Rattle.rpki_der.specs.Skipping.Reading.{any_at, captured_at}
use Rattle.rpki_der.specs.Encoding.{Means}
use Rattle.rpki_der.specs.Tags.{CONTEXT_CONSTRUCTED, SEQUENCE}
use Rattle.rpki_der.specs.Values.{IsEnc, IsValue, IsNested}
use Rattle.rpki_der.specs.Values.Reading.{value_at}
use Rattle.rpki_der.specs.declared.error.DecodeError.{DecodeError}
use Rattle.rpki_der.specs.declared.error.DecodeError.TheVariants.{Memory}
use Rattle.rpki_der.proofs.Answering.{rejects}
use Rattle.rpki_der.proofs.Octets.{bind_some, both_are, some, some_is, nothing}
use Rattle.rpki_der.proofs.Sequences.{sequence_again}
use Rattle.rpki_der.proofs.SkippingReads.{captured_reads}
use Rattle.rpki_der.proofs.SkippingSteps.{any_shrinks}
use Rattle.rpki_der.proofs.ValueReads.{value_again}
use Rattle.rpki_ext.proofs.Pieces.{sequence_pieces}
use Rattle.rpki_cert.specs.Certificates.{CertFields, IsCertificate}
use Rattle.rpki_cert.specs.Rearranged.{IsBuiltOf, IsSomeExtension}
use Rattle.rpki_cert.specs.Rearranging.{BeginsWith, IsRejected, Parts}
use Rattle.rpki_cert.specs.Rearranging.Reading.{frame_at, sequence_in, split_last}
use Rattle.rpki_cert.specs.RearrangeErrors.{of_reading}
use Rattle.rpki_cert.specs.declared.extra.Extra.{Extra}
use Rattle.rpki_cert.specs.declared.rearrange_error.RearrangeError.{RearrangeError}
use Rattle.rpki_cert.proofs.CertificateParts.{all_values, certificate_parts, concat_push, zipped_values}

-- ---- values one after the other

-- reading a value that is kept whole uses octets up
pub captured_shrinks : Shrinks captured_at
unfolding captured_at
captured_shrinks = λ octets v rest e.
    let a = bind_some (any_at octets) (λ w. some {A = List ℕ × List ℕ} (take (length octets - length w.1) octets, w.1)) (v, rest) e in
    let same = both_are (take (length octets - length a.0.1) octets, a.0.1) (v, rest) a.2 in
    omega (arith, any_shrinks octets a.0.0 a.0.1 a.1, ap length same.1)

captured_sequence : (ps : List (List ℕ)) → AllByRecursion IsValue ps → AreEncodings IsCaptured ps (concat ps)
captured_sequence [] h = refl
captured_sequence (p ∷ ps) h = (p, concat ps, (h.0, refl), captured_sequence ps h.1, refl)

values_are_read : (ps : List (List ℕ)) (octets : List ℕ) → AllByRecursion IsValue ps → octets ≡ concat ps →
    sequence_of captured_at octets ≡ some ps
values_are_read ps octets h e =
    rw e (sequence_again captured_at IsCaptured captured_reads captured_shrinks ps (concat ps)
    (captured_sequence ps h))

-- ---- the last of them

split_push : {X : Type 0} (xs : List X) (x : X) → split_last (xs ++ x ∷ []) ≡ some {A = List X × X} (xs, x)
split_push [] x = refl
split_push (y ∷ xs) x = rw (split_push xs x) refl

-- a list with one element at its end is split before it
pub split_is : {X : Type 0} (all xs : List X) (x : X) → all ≡ xs ++ x ∷ [] → split_last all ≡ some {A = List X × X} (xs, x)
split_is all xs x e = rw e (split_push xs x)

-- ---- extensions

some_extensions : (xs : List Extension) (ps : List (List ℕ)) → AllZip IsExtension xs ps → AllByRecursion IsSomeExtension ps
some_extensions xs [] h = tt
some_extensions [] (p ∷ ps) h = elim h [ ]
some_extensions (x ∷ xs) (p ∷ ps) h = ((x, h.0), some_extensions xs ps h.1)

whole_value : (t : ℕ) (c text : List ℕ) → IsEnc t c text → value_at t text ≡ some {A = List ℕ × List ℕ} (c, [])
whole_value t c text s = ap (value_at t) (sym (append-nil text)) ∙ value_again t c text [] s

sequence_is_read : (ps : List (List ℕ)) (elements value : List ℕ) → AllByRecursion IsValue ps → elements ≡ concat ps →
    IsNested (CONTEXT_CONSTRUCTED 3 ∷ SEQUENCE ∷ []) elements value → sequence_in value ≡ some ps
unfolding sequence_in
sequence_is_read ps elements value h e (inner, outer_is, (content, inner_is, same)) =
    let values : sequence_of captured_at content ≡ some ps = values_are_read ps content h (same ∙ e) in
    rw (whole_value (CONTEXT_CONSTRUCTED 3) inner value outer_is, whole_value SEQUENCE content inner inner_is) values

-- ---- a certificate

parts_from : (octets content rest tbs behind last : List ℕ) (values before elements : List (List ℕ)) →
    value_at SEQUENCE octets ≡ some {A = List ℕ × List ℕ} (content, rest) →
    value_at SEQUENCE content ≡ some {A = List ℕ × List ℕ} (tbs, behind)
    → sequence_of captured_at tbs ≡ some values →
    split_last values ≡ some {A = List (List ℕ) × List ℕ} (before, last) → sequence_in last ≡ some elements
    → frame_at octets ≡ some {A = List (List ℕ) × (List (List ℕ) × List ℕ)} (before, (elements, behind))
unfolding frame_at
parts_from octets content rest tbs behind last values before elements a b c d e = rw (a, b, c, d, e) refl

-- of a certificate the parts are read that it is built of
record AreParts (octets front : List ℕ) : Type 0 where
  parts : Parts
  read : frame_at octets ≡ some {A = List (List ℕ) × (List (List ℕ) × List ℕ)} (parts.before, (parts.old, parts.behind))
  built : IsBuiltOf parts.before parts.old parts.behind front
  extensions_are : AllByRecursion IsSomeExtension parts.old

parts_in : (c : CertFields) (octets text rest : List ℕ) → octets ≡ text ++ rest → IsCertificate c text → AreParts octets text
parts_in c octets text rest e s =
    let p = certificate_parts levels c text s in
    let inside = p.fields in
    let behind = p.signed.algorithm ++ p.signed.signature in
    let before = inside.front in
    let found = sequence_pieces IsExtension inside.triples inside.elements inside.elements_are in
    let message = c.signed_data.message in
    let first : value_at SEQUENCE octets ≡ some {A = List ℕ × List ℕ} (p.content, rest) = ap (value_at SEQUENCE) e ∙
    value_again SEQUENCE p.content text rest p.enc in
    let second : value_at SEQUENCE p.content ≡ some {A = List ℕ × List ℕ} (p.inside, behind) =
    ap (value_at SEQUENCE) p.signed.is ∙ value_again SEQUENCE p.inside message behind p.inside_enc in
    let third : sequence_of captured_at p.inside ≡ some (before ++ inside.extensions ∷ []) =
    values_are_read (before ++ inside.extensions ∷ []) p.inside (all_values inside) inside.is in
    let fourth : sequence_in inside.extensions ≡ some found.0 = sequence_is_read found.0 inside.elements
    inside.extensions (zipped_values inside.triples found.0 found.1) found.2 inside.extensions_is in
    record {
      parts = record { before = before; old = found.0; behind = behind };
      read = parts_from octets p.content rest p.inside behind inside.extensions (before ++ inside.extensions ∷ [])
          before found.0 first second third (split_push before inside.extensions) fourth;
      built = record {
        extensions = inside.extensions;
        tbs = message;
        before_are = inside.front_values;
        extensions_is = subst (λ (elements : List ℕ). IsNested (CONTEXT_CONSTRUCTED 3 ∷ SEQUENCE ∷ []) elements
            inside.extensions) found.2 inside.extensions_is;
        tbs_is = subst (λ (d : List ℕ). IsEnc SEQUENCE d message) (inside.is ∙ concat_push before inside.extensions) p.inside_enc;
        whole = subst (λ (d : List ℕ). IsEnc SEQUENCE d text) p.signed.is p.enc;
      };
      extensions_are = some_extensions inside.triples found.0 found.1;
    }

-- ---- what is read

-- the parts of a certificate as contracts see them
abbrev pub view : Parts → List (List ℕ) × (List (List ℕ) × List ℕ)
view p = (p.before, (p.old, p.behind))

same_parts : (p q : Parts) → some {A = List (List ℕ) × (List (List ℕ) × List ℕ)} (view p) ≡ Some (view q) → p ≡ q
same_parts p q e = let same : view p ≡ view q = some_is (view p) (view q) e in
    ap (λ (x : List (List ℕ) × (List (List ℕ) × List ℕ)). record { before = x.0; old = x.1.0; behind = x.1.1 }) same

begins : (octets : List ℕ) (c : CertFields) (m : Means IsCertificate c octets) (p : Parts) →
    frame_at octets ≡ Some (view p) → BeginsWith octets p
begins octets c m p e =
    let found = parts_in c octets m.1.text m.0 m.1.parts m.1.encoded in
    let same : found.parts ≡ p = same_parts found.parts p (sym found.read ∙ e) in
    subst (λ (q : Parts). BeginsWith octets q) same (record {
      certificate = c;
      front = m.1.text;
      rest = m.0;
      certificate_is = m.1.encoded;
      built = found.built;
      extensions_are = found.extensions_are;
      octets_are = m.1.parts;
    })

-- a certificate's parts are read, or it ran out of memory
pub parts_ok : (octets copy : List ℕ) (c : CertFields) → Means IsCertificate c copy → copy ≡ octets →
    (r : Result Parts DecodeError) → ReturnsOrMemoryBy view r (frame_at octets) → IfOk r (λ p. BeginsWith octets p)
parts_ok octets copy c m same (Ok p) e = begins octets c (subst (λ (o : List ℕ). Means IsCertificate c o) same m) p e
parts_ok octets copy c m same (Err d) e = tt

abbrev IsNone : List ℕ → Type 0
IsNone octets = (x : CertFields) → Means IsCertificate x octets → ⊥

-- where a certificate begins the octets, reading its parts fails only when out of memory
pub parts_rejected : (octets copy : List ℕ) (c : CertFields) → Means IsCertificate c copy → copy ≡ octets →
    (r : Result Parts DecodeError) → ReturnsOrMemoryBy view r (frame_at octets) →
    IfErr r (λ d. Rejects d (IsNone octets))
parts_rejected octets copy c m same (Ok p) e = tt
parts_rejected octets copy c m same (Err d) e =
    let n = subst (λ (o : List ℕ). Means IsCertificate c o) same m in
    let found = parts_in c octets n.1.text n.0 n.1.parts n.1.encoded in
    rejects d (λ none. nothing (view found.parts) (sym none ∙ found.read)) e

-- ---- why nothing could be read

-- a refusal that is passed on says of octets what it said of their copy
pub rejection_passed_on : {X : Type 0} (octets copy : List ℕ) (r : Result X DecodeError) (d : DecodeError) →
    r ≡ Err d → Rejects d (IsNone copy) → copy ≡ octets → IfErr r (λ e. Rejects e (IsNone octets))
rejection_passed_on octets copy (Ok x) d e h same = tt
rejection_passed_on octets copy (Err f) d e h same =
    let error : f ≡ d = cc in
    subst (λ (g : DecodeError). Rejects g (IsNone octets)) (sym error) (subst (λ (o : List ℕ). Rejects d (IsNone o)) same h)

-- it is why nothing is rearranged
rejected_by_reading : (octets : List ℕ) (d : DecodeError) → Rejects d (IsNone octets) →
    (order : List ℕ) (extras : List Extra) → IsRejected octets order extras (of_reading d)
rejected_by_reading octets Memory h order extras = tt
rejected_by_reading octets _ h order extras = h

-- a refusal to read a copy, passed on as one to rearrange, is a refusal of the octets
pub rejected_from : {X : Type 0} (octets copy : List ℕ) (r : Result X RearrangeError) (d : DecodeError) →
    r ≡ Err (of_reading d) → Rejects d (IsNone copy) → copy ≡ octets →
    IfErr r (λ e. (order : List ℕ) (extras : List Extra) → IsRejected octets order extras e)
rejected_from octets copy (Ok x) d e h same = tt
rejected_from octets copy (Err f) d e h same =
    let error : f ≡ of_reading d = cc in
    subst (λ (g : RearrangeError). (order : List ℕ) (extras : List Extra) → IsRejected octets order extras g)
    (sym error) (rejected_by_reading octets d (subst (λ (o : List ℕ). Rejects d (IsNone o)) same h))
