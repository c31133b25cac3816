-- Fields that fit and whose encoding is read as some fields can be written, and are these.
use Rattle.std.specs.List.{AllByRecursion}
use Rattle.std.proofs.Common.{◌≡◌, ℕ, List, [], ◌∷◌, ◌++◌, take, refl, sym, subst, ◌∙◌, arith}
use Rattle.std.proofs.lemmas.List.{same_from_push}
use Rattle.rpki_der.specs.Extensions.{IsExtension}
use Rattle.rpki_der.specs.Sequences.{AreEncodings}
use Rattle.rpki_der.specs.Tags.{CONTEXT_CONSTRUCTED, SEQUENCE}
use Rattle.rpki_der.specs.Skipping.{levels}
use Rattle.rpki_der.specs.Values.{AreOctets, IsNested, IsValue}
use Rattle.rpki_der.proofs.FormatLaws.{one_meaning}
use Rattle.rpki_der.proofs.Formats.{of_enc, same_enc}
use Rattle.rpki_der.proofs.ValueWritten.{Short, pieces_short, nested_made, nested_short, number_made}
use Rattle.rpki_der.proofs.Values.{enc_is_one, one_row}
use Rattle.rpki_parts.specs.Algorithms.{algorithm}
use Rattle.rpki_parts.specs.Keys.{key}
use Rattle.rpki_parts.specs.Names.{IsName}
use Rattle.rpki_parts.specs.Validities.{validity}
use Rattle.rpki_parts.proofs.NameReads.{name_sequence}
use Rattle.rpki_parts.proofs.PartFormats.{algorithm_alone, algorithm_fits, algorithm_value, public_key_alone}
use Rattle.rpki_parts.proofs.PartFormats.{public_key_fits, public_key_value, validity_alone, validity_fits}
use Rattle.rpki_parts.proofs.PartFormats.{validity_value}
use Rattle.rpki_ext.specs.CertificateExtensions.{AreExtensions, extensions}
use Rattle.rpki_ext.proofs.FieldsRead.{resources_read, v4_read}
use Rattle.rpki_cert.specs.Certificates.{TbsFields, IsTbsCertificate, CanBeWritten, Fits, encoding, tagged_extensions}
use Rattle.rpki_cert.specs.Certificates.{tbs_content, tbs_format, version_format}
use Rattle.rpki_cert.proofs.CertificateFormats.{pieces, pieces_are, tbs_lawful, tbs_made, version_alone}
use Rattle.rpki_cert.proofs.CertificateParts.{TbsParts, all_values, tbs_parts}

abbrev tags : List ℕ
tags = CONTEXT_CONSTRUCTED 3 ∷ SEQUENCE ∷ []

-- octets have one content inside tags
one_content : (ts c d b : List ℕ) → IsNested ts c b → IsNested ts d b → c ≡ d
one_content [] c d b p q = sym p ∙ q
one_content (t ∷ ts) c d b p q = one_content ts c d p.0 p.2 (subst (λ (x : List ℕ). IsNested ts d x) (same_enc q.1 p.1).1 q.2)

module _ (f g : TbsFields) (fits : Fits f) (read : IsTbsCertificate g (encoding f)) where
  abbrev parts : TbsParts levels g read.0
  parts = tbs_parts levels g read.0 read.1

  same : read.0 ≡ tbs_content f
  same = sym (enc_is_one SEQUENCE SEQUENCE (tbs_content f) read.0 read.2.is).1

  shorts : AllByRecursion Short (pieces f)
  shorts = pieces_short (pieces f) (subst Short (pieces_are f) (fits.short, subst AreOctets same read.2.octets))

  sequence_tagged : Short (tagged_extensions f.extensions)
  sequence_tagged = let (_, (_, (_, (_, (_, (_, (_, (last, _)))))))) = shorts in last

  sequence_nested : IsNested tags (extensions f.extensions) (tagged_extensions f.extensions)
  sequence_nested = nested_made tags (extensions f.extensions) (omega arith, (omega arith, tt)) sequence_tagged

  name_value : (name : List ℕ) → IsName name name → IsValue name
  name_value name s = of_enc (name_sequence levels s).sequence

  written_values : AllByRecursion IsValue (pieces f)
  unfolding version_format
  written_values =
      let (version, (serial, (algorithm_short, (_, (validity_short, (_, (key_short, (_, _)))))))) = shorts in (
        of_enc (version_alone.law.made tt (omega arith, tt) version.0).2,
        (
          of_enc (number_made f.serial serial).enc,
          (
            algorithm_value f.algorithm (algorithm f.algorithm)
                (algorithm_alone.law.made f.algorithm (algorithm_fits f.algorithm) algorithm_short.0),
            (
              name_value f.issuer fits.issuer_is,
              (
                validity_value f.validity (validity f.validity)
                    (validity_alone.law.made f.validity
                    (validity_fits f.validity fits.not_before_is fits.not_after_is) validity_short.0),
                (
                  name_value f.subject fits.subject_is,
                  (
                    public_key_value f.key (key f.key)
                        (public_key_alone.law.made f.key (public_key_fits f.key fits.key_is key_short.0) key_short.0),
                    (of_enc sequence_nested.1, tt),
                  ),
                ),
              ),
            ),
          ),
        ),
      )

  -- the sequence that is read is the sequence that is written
  sequence_read : parts.elements ≡ extensions f.extensions
  sequence_read =
      let all = one_row (parts.front ++ parts.extensions ∷ []) (pieces f) (all_values parts) written_values
      (sym parts.is ∙ same ∙ pieces_are f) in
      let tagged = (same_from_push parts.front (take 7 (pieces f)) parts.extensions (tagged_extensions f.extensions) all).1 in
      one_content tags parts.elements (extensions f.extensions) (tagged_extensions f.extensions)
      (subst (λ (b : List ℕ). IsNested tags parts.elements b) tagged parts.extensions_is) sequence_nested

  extensions_read : AreExtensions g.extensions (extensions f.extensions)
  extensions_read = (
    parts.triples,
    subst (λ (b : List ℕ). AreEncodings IsExtension parts.triples b) sequence_read
        parts.elements_are,
    parts.gives,
  )

  -- the fields can be written
  pub can_be_written : CanBeWritten f
  can_be_written =
      let elements = nested_short tags (extensions f.extensions) sequence_tagged in
      record {
        fits = fits;
        resources = resources_read f.extensions g.extensions elements extensions_read;
        only_v4 = v4_read f.extensions g.extensions elements extensions_read fits.extensions_are.v4_is;
      }

  -- and are those that are read
  pub fields_same : g ≡ f
  fields_same =
      let can = can_be_written in
      (one_meaning (tbs_format levels) refl tbs_lawful g f (encoding f) (encoding f) [] [] read
      (tbs_made f fits can.only_v4 can.resources (encoding f) refl) refl).0
