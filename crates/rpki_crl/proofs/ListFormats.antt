-- The formats of revocation lists are lawful.
use Rattle.std.proofs.Common.{◌≡◌, ℕ, List, [], ◌∷◌, refl, arith}
use Rattle.rpki_der.specs.BasicFormats.{time_format}
use Rattle.rpki_der.specs.Formats.{Format, any_octets, then}
use Rattle.rpki_der.specs.Skipping.{levels}
use Rattle.rpki_der.specs.Tags.{CONTEXT_CONSTRUCTED, INTEGER, SEQUENCE}
use Rattle.rpki_der.specs.Values.{IsEnc, IsValue, enc, length_octets}
use Rattle.rpki_der.proofs.BasicFormats.{time_lawful}
use Rattle.rpki_der.proofs.FormatAnswers.{IsAlone, then_alone}
use Rattle.rpki_der.proofs.FormatChoices.{such_that_lawful}
use Rattle.rpki_der.proofs.FormatLaws.{any_octets_lawful, fields_lawful, only_lawful, optional_lawful, tagged_lawful, then_lawful}
use Rattle.rpki_der.proofs.Formats.{of_enc}
use Rattle.rpki_parts.specs.Algorithms.{algorithm_format}
use Rattle.rpki_parts.specs.Names.{name_format}
use Rattle.rpki_parts.proofs.NameReads.{name_alone}
use Rattle.rpki_parts.proofs.PartFormats.{algorithm_alone, algorithm_fits}
use Rattle.rpki_parts.proofs.SignedFormats.{signed_lawful}
use Rattle.rpki_crl.specs.ListExtensions.{FitListExtensions, list_extensions_format}
use Rattle.rpki_crl.specs.ListHeads.{head_format, skipped_format}
use Rattle.rpki_crl.specs.Lists.{IsTbsCertList, ListFields, ListFits, IsTbsCertListWithin, list_content}
use Rattle.rpki_crl.specs.Lists.{list_encoding, certificate_list_content_format, certificate_list_format}
use Rattle.rpki_crl.specs.Lists.{content_with, has_one_algorithm, list_content_format, list_format}
use Rattle.rpki_crl.specs.Lists.{tagged_extensions_format, version_2}
use Rattle.rpki_crl.specs.RevokedEntries.{Revoked, revoked_format}
use Rattle.rpki_crl.proofs.ListExtensionsReads.{list_extensions_lawful}
use Rattle.rpki_crl.proofs.ListReads.{revoked_fits, revoked_lawful}

-- anything may follow the version
pub version_alone : IsAlone version_2
unfolding version_2
version_alone = record {
  law = only_lawful (1 ∷ []) (any_octets INTEGER)
      (any_octets_lawful INTEGER (omega arith) (omega arith));
  none = refl;
}

entries_and_extensions : IsAlone (then revoked_format tagged_extensions_format)
unfolding revoked_format
entries_and_extensions = record {
  law = then_lawful revoked_format tagged_extensions_format refl revoked_lawful
      (tagged_lawful (CONTEXT_CONSTRUCTED 0) list_extensions_format (omega arith) (omega arith)
      list_extensions_lawful);
  none = refl;
}

time_alone : IsAlone time_format
time_alone = record { law = time_lawful; none = refl }

skipped_and_extensions : IsAlone (then skipped_format tagged_extensions_format)
skipped_and_extensions = record {
  law = then_lawful skipped_format tagged_extensions_format refl
      (optional_lawful SEQUENCE (any_octets SEQUENCE) refl refl (omega arith) (any_octets_lawful SEQUENCE (omega arith) (omega arith)))
      (tagged_lawful (CONTEXT_CONSTRUCTED 0) list_extensions_format (omega arith) (omega arith) list_extensions_lawful);
  none = refl;
}

module _ (depth : ℕ) where
  content_alone : {C : Type 0} (entries : Format C) → IsAlone (then entries tagged_extensions_format) → IsAlone (content_with entries depth)
  content_alone entries last =
      let times = then_alone time_format _ time_alone (then_alone time_format _ time_alone last) in
      let parts = then_alone version_2 _ version_alone
      (then_alone algorithm_format _ algorithm_alone
      (then_alone (name_format depth) _ (name_alone depth) times)) in
      record { law = fields_lawful _ _ (λ x. refl) (λ f. refl) parts.law; none = parts.none }

  -- anything may follow the content of a TBSCertList
  pub list_content_alone : IsAlone (list_content_format depth)
  unfolding list_content_format
  list_content_alone = content_alone revoked_format entries_and_extensions

  -- anything may follow a TBSCertList whose entries aren't looked at
  pub head_alone : IsAlone (head_format depth)
  unfolding head_format
  head_alone = record {
    law = tagged_lawful SEQUENCE (content_with skipped_format depth) (omega arith) (omega arith)
        (content_alone skipped_format skipped_and_extensions).law;
    none = refl;
  }

  -- anything may follow a TBSCertList
  pub list_alone : IsAlone (list_format depth)
  unfolding list_format
  list_alone = record {
    law = tagged_lawful SEQUENCE (list_content_format depth) (omega arith) (omega arith)
        list_content_alone.law;
    none = refl;
  }

  -- a TBSCertList is one value
  pub list_value : (f : ListFields Revoked) (text : List ℕ) → IsTbsCertListWithin depth f text → IsValue text
  unfolding list_format
  list_value f text (content, fields_are, encoded) = of_enc encoded

  -- anything may follow the content of a CertificateList
  pub certificate_list_content_alone : IsAlone (certificate_list_content_format depth)
  unfolding certificate_list_content_format
  certificate_list_content_alone = record {
    law = such_that_lawful has_one_algorithm
        _ (fields_lawful _ _ (λ x. refl) (λ r. refl) (signed_lawful (list_format depth) list_alone list_value));
    none = refl;
  }

  -- anything may follow a CertificateList
  pub certificate_list_alone : IsAlone (certificate_list_format depth)
  unfolding certificate_list_format
  certificate_list_alone =
      record {
        law = tagged_lawful SEQUENCE (certificate_list_content_format depth) (omega arith) (omega arith)
            certificate_list_content_alone.law;
        none = refl;
      }

-- ---- what is written

-- the version that is written
pub version_is : version_2.written tt ≡ INTEGER ∷ 1 ∷ 1 ∷ []
unfolding version_2 enc length_octets
version_is = refl

module _ (f : ListFields Revoked) (fits : ListFits f) where
  -- such fields can be written
  pub list_fits : (list_content_format levels).fits f
  unfolding list_content_format version_2 name_format
  list_fits =
      let extensions : FitListExtensions f.extensions = record { identifier_is = fits.identifier_is; number_is = fits.number_is } in (
        (omega arith, tt),
        (
          algorithm_fits f.algorithm,
          (
            fits.issuer_is.0,
            (fits.this_update_is, (fits.next_update_is, (revoked_fits f.revoked fits.entries_are, extensions))),
          ),
        ),
      )

  -- the encoding of a list's fields is a SEQUENCE of their content
  pub data_made : (b : List ℕ) → b ≡ list_encoding f → IsEnc SEQUENCE (list_content f) b
  unfolding list_format
  data_made b is = record {
    octet = omega arith;
    low_tag = omega arith;
    octets =
        (list_content_alone levels).law.octets f list_fits fits.short;
    short = fits.short;
    is = is;
  }

  -- the encoding of a list's fields is a TBSCertList of them
  pub list_made : IsTbsCertList f (list_encoding f)
  unfolding list_format
  list_made = (list_content f, (list_content_alone levels).law.made f list_fits fits.short, data_made (list_encoding f) refl)
