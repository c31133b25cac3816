-- The notes of the certificate that octets begin with.
use Rattle.std.proofs.Common.{◌≡◌, ◌↔◌, Bool, ℕ, List, [], ◌∷◌, ◌++◌, true, false, if◌then◌else◌, refl, sym, ap, subst, inl, inr}
use Rattle.std.proofs.lemmas.Bool.{false≢true}
use Rattle.std.proofs.lemmas.List.{append-nil}
use Rattle.rpki_cert.specs.Certificates.{CertFields, IsCertificate, certificate_content_format, certificate_format}
use Rattle.rpki_cert.specs.Certificates.{tbs_content_format, version_format}
use Rattle.rpki_der.specs.Encoding.{Begins, Means}
use Rattle.rpki_der.specs.Extensions.{Extension}
use Rattle.rpki_der.specs.Values.{IsEnc}
use Rattle.rpki_der.specs.Skipping.{levels}
use Rattle.rpki_der.proofs.FormatLaws.{one_meaning}
use Rattle.rpki_der.proofs.Formats.{one_meant}
use Rattle.rpki_parts.specs.Algorithms.{algorithm_format}
use Rattle.rpki_parts.specs.Keys.{public_key_format}
use Rattle.rpki_parts.specs.Validities.{validity_format}
use Rattle.rpki_parts.proofs.NameReads.{name_sequence}
use Rattle.rpki_parts.proofs.SignedFormats.{signed_parts}
use Rattle.rpki_cert.proofs.CertificateFormats.{certificate_lawful}
use Rattle.rpki_text.specs.Notes.{AreNotes, AreThose, Breaks, HaveExtensions, IsNoteOf, every_note}
use Rattle.rpki_text.specs.declared.notes.note.Note.{Note}

-- ---- those of a list that have a property

module _ {X : Type 0} (P : X → Type 0) where
  -- with one more that has it
  pub one_more : (xs ys : List X) (x : X) → P x → AreThose P xs ys → AreThose P (xs ++ x ∷ []) (ys ++ x ∷ [])
  one_more [] ys x has e = inl (has, ([], ap (λ (zs : List X). zs ++ x ∷ []) e, refl))
  one_more (y ∷ xs) ys x has (inl (first, (rest, e, more))) =
      inl (first, (rest ++ x ∷ [], ap (λ (zs : List X). zs ++ x ∷ []) e, one_more xs rest x has more))
  one_more (y ∷ xs) ys x has (inr (not, more)) = inr (not, one_more xs ys x has more)

  -- with one more that hasn't
  pub no_more : (xs ys : List X) (x : X) → (P x → ⊥) → AreThose P xs ys → AreThose P (xs ++ x ∷ []) ys
  no_more [] ys x not e = inr (not, e)
  no_more (y ∷ xs) ys x not (inl (first, (rest, e, more))) = inl (first, (rest, e, no_more xs rest x not more))
  no_more (y ∷ xs) ys x not (inr (other, more)) = inr (other, no_more xs ys x not more)

  -- with one more, that is tested
  pub tested_more : (xs ys zs : List X) (x : X) (is : Bool) → ((is ≡ true) ↔ P x) → AreThose P xs ys →
      zs ≡ (if is then ys ++ x ∷ [] else ys) → AreThose P (xs ++ x ∷ []) zs
  tested_more xs ys zs x true has are e = subst (λ (l : List X). AreThose P (xs ++ x ∷ []) l) (sym e) (one_more xs ys x (has.0 refl) are)
  tested_more xs ys zs x false has are e = subst (λ (l : List X). AreThose P (xs ++ x ∷ []) l) (sym e)
      (no_more xs ys x (λ p. false≢true (has.1 p)) are)

  -- where none has it
  pub none_of : (xs : List X) → ((x : X) → P x → ⊥) → AreThose P xs []
  none_of [] not = refl
  none_of (x ∷ xs) not = inr (not x, none_of xs not)

-- ---- a certificate and its extensions

-- a value stands before what follows it
before : (tag : ℕ) (content text more octets : List ℕ) → IsEnc tag content text → octets ≡ text ++ more →
    Begins (IsEnc tag) octets content more
before tag content text more octets is e = record { text = text; encoded = is; parts = e }

module _ (octets : List ℕ) (c : CertFields) (m : Means IsCertificate c octets) where
  -- its extensions stand where they have to
  pub extensions_stand : (xs : List Extension) × HaveExtensions xs octets
  unfolding certificate_content_format tbs_content_format version_format algorithm_format validity_format public_key_format
  extensions_stand =
      let (whole, (signed, (inside, fields, data_enc)), enc_is) = m.1.encoded in
      let (
        version,
        _,
        v,
        (
          serial,
          _,
          n,
          (
            algorithm,
            _,
            a,
            (issuer, _, i, (validity, _, p, (subject, _, s, (key, last, k, tagged, e6), e5), e4), e3),
            e2,
          ),
          e1,
        ),
        e0,
      ) = fields in
      let (within, (elements, (xs, are, gives), sequence), outer) = tagged in
      let parts = signed_parts c.signed_data whole signed in (
        xs,
        (
          elements,
          record {
            whole = whole;
            data_is = inside;
            rest = last;
            begins = (m.0, record { text = m.1.text; encoded = enc_is; parts = m.1.parts });
            data_begins = (
              parts.algorithm ++ parts.signature,
              record { text = c.signed_data.message; encoded = data_enc; parts = parts.is },
            );
            fields_before = (
              _,
              _,
              before _ _ version _ _ v.2 e0,
              (
                _,
                _,
                before _ _ serial _ _ n.number.enc e1,
                (
                  _,
                  _,
                  before _ _ algorithm _ _ a.2 e2,
                  (
                    _,
                    _,
                    before _ _ issuer _ _ (name_sequence levels i).sequence e3,
                    (
                      _,
                      _,
                      before _ _ validity _ _ p.2 e4,
                      (_, _, before _ _ subject _ _ (name_sequence levels s).sequence e5, (_, _, before _ _ key _ _ k.2 e6, refl)),
                    ),
                  ),
                ),
              ),
            );
            elements_begin = ([], record { text = last; encoded = (within, sequence, outer); parts = sym (append-nil last) });
          },
          are,
        ),
      )

  -- it is the only one
  only_one : (d : CertFields) → Means IsCertificate d octets → d ≡ c
  only_one d n = one_meant IsCertificate (one_meaning (certificate_format levels) refl certificate_lawful) d c octets n m

  -- so a note is told by its fields and its extensions
  pub told : (n : Note) (is : Bool) →
      ((xs : List Extension) → HaveExtensions xs octets → ((is ≡ true) ↔ Breaks n octets c.fields xs)) →
      ((is ≡ true) ↔ IsNoteOf octets n)
  told n is h =
      let x = extensions_stand in (
        (λ so. record { certificate = c; extensions = x.0; begins = m; extensions_are = x.1; breaks = (h x.0 x.1).0 so }),
        (λ note. (h note.extensions note.extensions_are).1
            (subst (λ (d : CertFields). Breaks n octets d.fields note.extensions)
            (only_one note.certificate note.begins) note.breaks)),
      )

-- without a certificate there is no note
pub none_told : (octets : List ℕ) → ((c : CertFields) → Means IsCertificate c octets → ⊥) → AreNotes octets []
unfolding AreNotes
none_told octets none = none_of (IsNoteOf octets) every_note (λ n note. none note.certificate note.begins)
