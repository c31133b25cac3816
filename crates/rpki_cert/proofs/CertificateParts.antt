-- The parts of a certificate, by their names.
use Rattle.std.specs.List.{AllByRecursion, AllZip, concat}
use Rattle.std.proofs.Common.{◌≡◌, ℕ, List, [], ◌∷◌, ◌++◌, refl, ap, ◌∙◌, append_assoc}
use Rattle.std.proofs.lemmas.List.{append-nil}
use Rattle.std.proofs.lemmas.List.Folds.{concat-append}
use Rattle.rpki_der.specs.Extensions.{Extension, IsExtension, extension_format}
use Rattle.rpki_der.specs.Sequences.{AreEncodings}
use Rattle.rpki_der.specs.Tags.{CONTEXT_CONSTRUCTED, SEQUENCE}
use Rattle.rpki_der.specs.Values.{IsEnc, IsNested, IsValue}
use Rattle.rpki_der.proofs.Formats.{of_enc}
use Rattle.rpki_parts.proofs.NameReads.{name_sequence}
use Rattle.rpki_parts.proofs.PartFormats.{algorithm_value, public_key_value, validity_value}
use Rattle.rpki_parts.proofs.SignedFormats.{SignedParts, signed_parts}
use Rattle.rpki_ext.specs.CertificateExtensions.{GiveFieldsWithin}
use Rattle.rpki_cert.proofs.Reordering.{all_append}
use Rattle.rpki_cert.specs.Certificates.{CertFields, IsCertificateWithin, TbsFields, certificate_content_format}
use Rattle.rpki_cert.specs.Certificates.{tagged_extensions_format, tbs_content_format, version_format}

-- ---- values

-- an extension is one value
pub extension_value : (x : Extension) (text : List ℕ) → IsExtension x text → IsValue text
unfolding extension_format
extension_value x text (content, parts, encoded) = of_enc encoded

-- and so is each piece of a sequence of extensions
pub zipped_values : (xs : List Extension) (ps : List (List ℕ)) → AllZip IsExtension xs ps → AllByRecursion IsValue ps
zipped_values xs [] h = tt
zipped_values [] (p ∷ ps) h = elim h [ ]
zipped_values (x ∷ xs) (p ∷ ps) h = (extension_value x p h.0, zipped_values xs ps h.1)

-- pieces with one more behind them
pub concat_push : (before : List (List ℕ)) (last : List ℕ) → concat (before ++ last ∷ []) ≡ concat before ++ last
concat_push before last = concat-append before (last ∷ []) ∙ ap (λ (s : List ℕ). concat before ++ s) (append-nil last)

-- all of them before a text
abbrev all_before : List (List ℕ) → List ℕ → List ℕ
all_before [] last = last
all_before (p ∷ ps) last = p ++ all_before ps last

concat_front : (before : List (List ℕ)) (last : List ℕ) → concat before ++ last ≡ all_before before last
concat_front [] last = refl
concat_front (p ∷ ps) last = append_assoc p (concat ps) last ∙ ap (λ (s : List ℕ). p ++ s) (concat_front ps last)

-- ---- TBSCertificate

-- the parts of the content of a TBSCertificate: the values before its extensions, and these; with
-- others behind those values that give the same it is such a content too
pub record TbsParts (depth : ℕ) (f : TbsFields) (content : List ℕ) : Type 0 where
  pub front : List (List ℕ)
  pub front_values : AllByRecursion IsValue front
  pub extensions : List ℕ
  pub elements : List ℕ
  pub triples : List Extension
  pub elements_are : AreEncodings IsExtension triples elements
  pub extensions_is : IsNested (CONTEXT_CONSTRUCTED 3 ∷ SEQUENCE ∷ []) elements extensions
  pub gives : GiveFieldsWithin depth triples f.extensions
  pub is : content ≡ concat (front ++ extensions ∷ [])
  pub with_others : (xs : List Extension) (others text : List ℕ) → AreEncodings IsExtension xs others →
      IsNested (CONTEXT_CONSTRUCTED 3 ∷ SEQUENCE ∷ []) others text → GiveFieldsWithin depth xs f.extensions →
      (tbs_content_format depth).encodes f (concat front ++ text)

-- it is made of them
pub tbs_parts : (depth : ℕ) (f : TbsFields) (content : List ℕ) → (tbs_content_format depth).encodes f content → TbsParts depth f content
unfolding tbs_content_format version_format
tbs_parts depth f content (
  version,
  _,
  version_is,
  (
    serial,
    _,
    serial_is,
    (
      algorithm,
      _,
      algorithm_is,
      (
        issuer,
        _,
        issuer_is,
        (
          validity,
          _,
          validity_is,
          (subject, _, subject_is, (key, extensions, key_is, tagged, from_key), from_subject),
          from_validity,
        ),
        from_issuer,
      ),
      from_algorithm,
    ),
    from_serial,
  ),
  from_version,
) =
    let (inner, (elements, (triples, are, gives), sequence), outer) = tagged in
    let front : List (List ℕ) = version ∷ serial ∷ algorithm ∷ issuer ∷ validity ∷ subject ∷ key ∷ [] in
    record {
      front = front;
      front_values = (
        of_enc version_is.2,
        (
          of_enc serial_is.number.enc,
          (
            algorithm_value f.algorithm algorithm algorithm_is,
            (
              of_enc (name_sequence depth issuer_is).sequence,
              (
                validity_value f.validity validity validity_is,
                (of_enc (name_sequence depth subject_is).sequence, (public_key_value f.key key key_is, tt)),
              ),
            ),
          ),
        ),
      );
      extensions = extensions;
      elements = elements;
      triples = triples;
      elements_are = are;
      extensions_is = (inner, outer, (elements, sequence, refl));
      gives = gives;
      is = rw (from_version, from_serial, from_algorithm, from_issuer, from_validity, from_subject, from_key, append-nil extensions) refl;
      with_others = λ xs others text are_others (within, outside, (content_is, sequence_is, same)) given.
          let last : (tagged_extensions_format depth).encodes f.extensions text =
          (within, (content_is, (xs, rw same are_others, given), sequence_is), outside) in (
            version,
            _,
            version_is,
            (
              serial,
              _,
              serial_is,
              (
                algorithm,
                _,
                algorithm_is,
                (
                  issuer,
                  _,
                  issuer_is,
                  (validity, _, validity_is, (subject, _, subject_is, (key, text, key_is, last, refl), refl), refl),
                  refl,
                ),
                refl,
              ),
              refl,
            ),
            concat_front front text,
          );
    }

-- all parts are values
pub all_values : {depth : ℕ} {f : TbsFields} {content : List ℕ} → (t : TbsParts depth f content) →
    AllByRecursion IsValue (t.front ++ t.extensions ∷ [])
all_values t = all_append IsValue t.front (t.extensions ∷ []) t.front_values (of_enc t.extensions_is.1, tt)

-- ---- certificates

-- the parts of a certificate
pub record CertificateParts (depth : ℕ) (c : CertFields) (text : List ℕ) : Type 0 where
  pub content : List ℕ
  pub signed : SignedParts c.signed_data content
  pub inside : List ℕ
  pub fields : TbsParts depth c.fields inside
  pub inside_enc : IsEnc SEQUENCE inside c.signed_data.message
  pub enc : IsEnc SEQUENCE content text

-- it is made of them
pub certificate_parts : (depth : ℕ) (c : CertFields) (text : List ℕ) → IsCertificateWithin depth c text → CertificateParts depth c text
unfolding certificate_content_format
certificate_parts depth c text (content, (signed, (inside, are, inside_enc)), enc) =
    record {
      content = content;
      signed = signed_parts c.signed_data content signed;
      inside = inside;
      fields =
          tbs_parts depth c.fields inside are;
      inside_enc = inside_enc;
      enc = enc;
    }
