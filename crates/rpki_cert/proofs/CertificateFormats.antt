-- Certificates are lawful: how they are read, and what is written of them.
use Rattle.std.proofs.Common.{◌≡◌, ◌<◌, ◌≤◌, ◌^◌, ℕ, zero, suc, List, [], ◌∷◌, ◌++◌, length, take, map, get_or, refl}
use Rattle.std.proofs.Common.{ap, ◌∙◌, arith, append_assoc}
use Rattle.std.proofs.lemmas.List.{append-nil, length-append, take_at}
use Rattle.std.specs.List.{concat}
use Rattle.rpki_der.specs.BasicFormats.{serial_format}
use Rattle.rpki_der.specs.Extensions.{text}
use Rattle.rpki_der.specs.Formats.{Follows, IsLawful, then, ◌∶◌, ◌⨟◌}
use Rattle.rpki_der.specs.Primitives.{number}
use Rattle.rpki_der.specs.Reading.{content, Inside}
use Rattle.rpki_der.specs.Skipping.{levels}
use Rattle.rpki_der.specs.Tags.{CONTEXT_CONSTRUCTED, INTEGER, SEQUENCE}
use Rattle.rpki_der.specs.Values.{AreOctets, IsEnc, enc, length_octets}
use Rattle.rpki_der.proofs.BasicFormats.{serial_lawful}
use Rattle.rpki_der.proofs.Choices.{content_shrinks, inside_begins}
use Rattle.rpki_der.proofs.FormatAnswers.{IsAlone, after_alone, format_laws}
use Rattle.rpki_der.proofs.FormatLaws.{begins_with, fields_lawful, tagged_lawful}
use Rattle.rpki_der.proofs.Formats.{of_enc}
use Rattle.rpki_der.proofs.Readings.{before, content_reads}
use Rattle.rpki_der.proofs.ValueWritten.{Short, enc_longer, made, pieces_short}
use Rattle.rpki_der.proofs.WrittenOctets.{IfShort, octets_enc}
use Rattle.rpki_blocks.specs.Prefixes.{AreV4}
use Rattle.rpki_parts.specs.Algorithms.{algorithm, algorithm_format}
use Rattle.rpki_parts.specs.Keys.{key, public_key_format}
use Rattle.rpki_parts.specs.Names.{name_format, rdn_sequence_format}
use Rattle.rpki_parts.specs.SignedDatas.{signed, signed_content, signed_data}
use Rattle.rpki_parts.specs.Validities.{validity, validity_format}
use Rattle.rpki_parts.proofs.NameReads.{name_alone}
use Rattle.rpki_parts.proofs.PartFormats.{algorithm_alone, algorithm_fits, public_key_alone, public_key_fits}
use Rattle.rpki_parts.proofs.PartFormats.{public_key_longer, validity_alone, validity_fits}
use Rattle.rpki_parts.proofs.SignedFormats.{content_is, signed_enc, signed_lawful, signed_made}
use Rattle.rpki_ext.specs.CertificateExtensions.{AreExtensions, ExtensionFields, ExtensionsFit, HasResources}
use Rattle.rpki_ext.specs.CertificateExtensions.{extensions, parts, extensions_of}
use Rattle.rpki_ext.proofs.CertificateExtensions.{extensions_read, fields_given, known_parts, ok_contents}
use Rattle.rpki_ext.proofs.KindsWritten.{contents_short, elements_made, ok_sequence, written}
use Rattle.rpki_cert.specs.Certificates.{CertFields, Fits, IsCertificate, IsTbsCertificate, TbsFields}
use Rattle.rpki_cert.specs.Certificates.{certificate_content_format, certificate_format, encoding, extensions_format}
use Rattle.rpki_cert.specs.Certificates.{tagged_extensions, tagged_extensions_format, tbs_content, tbs_content_format}
use Rattle.rpki_cert.specs.Certificates.{tbs_format, version_format}

-- ---- TBSCertificate

-- anything may follow a version
pub version_alone : IsAlone version_format
unfolding version_format
version_alone = record { law = search format_laws; none = refl }

module _ (f : ExtensionFields) (fits : ExtensionsFit f) (only_v4 : AreV4 f.v4_resources) where
  sequence_octets : IfShort (extensions f)
  unfolding extensions
  sequence_octets = ok_sequence (parts f) (known_parts f) (ok_contents f fits only_v4)

  sequence_made : HasResources f → Short (extensions f) → AreExtensions f (extensions f)
  unfolding extensions
  sequence_made some short =
      let pieces = pieces_short (map text (parts f)) short in (
        written (parts f),
        elements_made (parts f) (known_parts f) pieces,
        fields_given f fits only_v4 some (contents_short (parts f) pieces),
      )

extensions_lawful : IsLawful (extensions_format levels)
extensions_lawful = record {
  reads = before (Follows []) (content SEQUENCE extensions_of) (Inside SEQUENCE AreExtensions)
      (content_reads SEQUENCE extensions_of AreExtensions extensions_read);
  starts = λ f text s. let g = inside_begins SEQUENCE AreExtensions f text s in begins_with SEQUENCE g.0 text g.1;
  shorter = λ octets f rest e. omega (arith, content_shrinks SEQUENCE extensions_of octets f rest e);
  octets = λ f fits short. let l = enc_longer SEQUENCE (extensions f) in
      octets_enc SEQUENCE (extensions f) (omega arith) (omega arith)
      (sequence_octets f fits.0 fits.1 (omega arith));
  made = λ f fits short.
      let l = enc_longer SEQUENCE (extensions f) in
      let octets = sequence_octets f fits.0 fits.1 (omega arith) in (
        extensions f,
        sequence_made f fits.0 fits.1 fits.2 (omega arith, octets),
        made SEQUENCE (extensions f) (omega arith)
            (short, octets_enc SEQUENCE (extensions f) (omega arith) (omega arith) octets),
      );
}

-- anything may follow the content of a TBSCertificate
pub tbs_content_alone : IsAlone (tbs_content_format levels)
unfolding tbs_content_format version_format algorithm_format name_format rdn_sequence_format validity_format public_key_format
tbs_content_alone =
    let n = name_format levels in
    let from_key = then public_key_format (tagged_extensions_format levels) in
    let from_validity = then validity_format (then n from_key) in
    let from_serial = then serial_format (then algorithm_format (then n from_validity)) in
    let serial_alone : IsAlone serial_format = record { law = serial_lawful; none = refl } in
    record {
      law = fields_lawful _
          ((λ f. tt) ∶ version_format ⨟ (λ f. f.serial) ∶ serial_format ⨟ (λ f. f.algorithm) ∶ algorithm_format ⨟
          (λ f. f.issuer) ∶ n ⨟ (λ f. f.validity) ∶ validity_format ⨟ (λ f. f.subject) ∶ n ⨟ (λ f. f.key) ∶
          public_key_format ⨟ (λ f. f.extensions) ∶ tagged_extensions_format levels)
          (λ x. refl) (λ f. refl)
          (after_alone version_format from_serial version_alone
          (after_alone serial_format (then algorithm_format (then n from_validity)) serial_alone
          (after_alone algorithm_format (then n from_validity) algorithm_alone
          (after_alone n from_validity (name_alone levels)
          (after_alone validity_format (then n from_key) validity_alone
          (after_alone n from_key (name_alone levels)
          (after_alone public_key_format (tagged_extensions_format levels) public_key_alone
          (tagged_lawful (CONTEXT_CONSTRUCTED 3) (extensions_format levels) (omega arith) (omega arith)
          extensions_lawful))))))));
      none = refl;
    }

-- a TBSCertificate is lawful
pub tbs_lawful : IsLawful (tbs_format levels)
tbs_lawful = tagged_lawful SEQUENCE (tbs_content_format levels) (omega arith) (omega arith) tbs_content_alone.law

-- ---- Certificate

-- anything may follow the content of a Certificate
pub certificate_content_alone : IsAlone (certificate_content_format levels)
unfolding certificate_content_format
certificate_content_alone = record {
  law = fields_lawful (λ x. record { fields = x.0; signed_data = x.1 })
      ((λ c. (c.fields, c.signed_data)) ∶ signed (tbs_format levels)) (λ x. refl) (λ c. refl)
      (signed_lawful (tbs_format levels) (record { law = tbs_lawful; none = refl }) (λ f text s. of_enc s.2));
  none = refl;
}

-- a Certificate is lawful
pub certificate_lawful : IsLawful (certificate_format levels)
certificate_lawful = tagged_lawful SEQUENCE (certificate_content_format levels) (omega arith) (omega arith) certificate_content_alone.law

-- ---- what is written

-- the octets of the version
pub version_written : version_format.written tt ≡ CONTEXT_CONSTRUCTED 0 ∷ 3 ∷ INTEGER ∷ 1 ∷ 2 ∷ []
unfolding version_format enc length_octets
version_written = refl

-- the values inside the SEQUENCE of what is written of fields
abbrev pub pieces : TbsFields → List (List ℕ)
pieces f = version_format.written tt ∷ number f.serial ∷ algorithm f.algorithm ∷ f.issuer ∷ validity f.validity ∷
    f.subject ∷ key f.key ∷ tagged_extensions f.extensions ∷ []

-- they are what is written
pub pieces_are : (f : TbsFields) → tbs_content f ≡ concat (pieces f)
unfolding tbs_content_format name_format
pieces_are f = rw (append-nil (tagged_extensions f.extensions)) refl

in_order : (old a b c d e f g h : List ℕ) → (((((((old ++ a) ++ b) ++ c) ++ d) ++ e) ++ f) ++ g) ++ h ≡ old ++
    (a ++ (b ++ (c ++ (d ++ (e ++ (f ++ (g ++ h)))))))
in_order old a b c d e f g h = simp append_assoc

-- and so are they one behind the other, behind other octets
pub pieces_in_order : (old : List ℕ) (f : TbsFields) →
    (((((((old ++ version_format.written tt) ++ number f.serial) ++ algorithm f.algorithm) ++ f.issuer) ++
    validity f.validity) ++ f.subject) ++ key f.key) ++ tagged_extensions f.extensions ≡ old ++ tbs_content f
unfolding tbs_content_format name_format
pieces_in_order old f = in_order old (version_format.written tt) (number f.serial) (algorithm f.algorithm) f.issuer
    (validity f.validity) f.subject (key f.key) (tagged_extensions f.extensions)

-- what they stand behind is a front
pub front_of_pieces : (old a b c d e f g : List ℕ) → take (length old) (((((((old ++ a) ++ b) ++ c) ++ d) ++ e) ++ f) ++ g) ≡ old
front_of_pieces old a b c d e f g = simp append_assoc (take_at old (a ++ (b ++ (c ++ (d ++ (e ++ (f ++ g)))))) (length old) refl)

member_longer : (ps : List (List ℕ)) (k : ℕ) → length (get_or ps k []) ≤ length (concat ps)
member_longer [] k = omega arith
member_longer (p ∷ ps) zero = omega (arith, length-append p (concat ps))
member_longer (p ∷ ps) (suc k) = omega (arith, member_longer ps k, length-append p (concat ps))

whole_key_longer : (f : TbsFields) → length (key f.key) ≤ length (tbs_content f)
whole_key_longer f = omega (arith, member_longer (pieces f) 6, ap length (pieces_are f))

-- what stands inside a key isn't longer than the certificate's data
pub key_longer : (f : TbsFields) → length (public_key_format.inside f.key) ≤ length (tbs_content f)
key_longer f = omega (arith, public_key_longer f.key, whole_key_longer f)

-- the extensions inside their two tags aren't either
pub extensions_longer : (f : TbsFields) → length (tagged_extensions f.extensions) ≤ length (tbs_content f)
extensions_longer f = omega (arith, member_longer (pieces f) 7, ap length (pieces_are f))

module _ (f : TbsFields) (fits : Fits f) (only_v4 : AreV4 f.extensions.v4_resources) (some : HasResources f.extensions) where
  content_fits : (tbs_content_format levels).fits f
  unfolding tbs_content_format version_format name_format
  content_fits = (
    (omega arith, tt),
    (
      fits.serial_is,
      (
        algorithm_fits f.algorithm,
        (
          fits.issuer_is.0,
          (
            validity_fits f.validity fits.not_before_is fits.not_after_is,
            (
              fits.subject_is.0,
              (
                public_key_fits f.key fits.key_is (omega (arith, whole_key_longer f, fits.short)),
                (fits.extensions_are, only_v4, some),
              ),
            ),
          ),
        ),
      ),
    ),
  )

  enc_made : (b : List ℕ) → b ≡ encoding f → IsEnc SEQUENCE (tbs_content f) b
  enc_made b is = record {
    octet = omega arith;
    low_tag = omega arith;
    octets =
        tbs_content_alone.law.octets f content_fits fits.short;
    short = fits.short;
    is = is;
  }

  -- the encoding of fields with resources is a TBSCertificate of them
  pub tbs_made : (b : List ℕ) → b ≡ encoding f → IsTbsCertificate f b
  tbs_made b is = (tbs_content f, tbs_content_alone.law.made f content_fits fits.short, enc_made b is)

-- signed data of the encoding of fields is a certificate with these fields
pub certificate_made : (c : CertFields) → Fits c.fields → c.signed_data.message ≡ encoding c.fields →
    AreOctets c.signed_data.signature.value → length (signed_content c.signed_data) < 2 ^ 32 →
    HasResources c.fields.extensions → AreV4 c.fields.extensions.v4_resources →
    IsCertificate c (signed_data c.signed_data)
unfolding certificate_content_format
certificate_made c fits is octets short some only_v4 =
    let s = c.signed_data in
    let tbs = tbs_made c.fields fits only_v4 some s.message is in
    (signed_content s, (signed_made s (of_enc tbs.2) octets short, tbs), signed_enc s (of_enc tbs.2) octets short)

-- what was read
pub certificate_is : (c : CertFields) (b : List ℕ) → IsCertificate c b → b ≡ signed_data c.signed_data
unfolding certificate_content_format
certificate_is c b (content, (signed_is, fields_are), encoded) = encoded.is ∙ ap (enc SEQUENCE) (content_is c.signed_data content signed_is)
