-- A revocation list under one bound of depth is one under a greater bound, which concerns its
-- issuer's name alone.
use Rattle.std.proofs.Common.{ℕ, ◌≤◌, List}
use Rattle.rpki_parts.proofs.DeeperNames.{deeper_name}
use Rattle.rpki_crl.specs.Lists.{CrlFields, ListFields, IsTbsCertListWithin, IsCertificateListWithin}
use Rattle.rpki_crl.specs.Lists.{certificate_list_content_format, certificate_list_format, list_content_format}
use Rattle.rpki_crl.specs.Lists.{list_format}
use Rattle.rpki_crl.specs.RevokedEntries.{Revoked}

module _ (d e : ℕ) (le : d ≤ e) where
  list_content : (f : ListFields Revoked) (b : List ℕ) → (list_content_format d).encodes f b → (list_content_format e).encodes f b
  unfolding list_content_format
  list_content f b (version, _, version_is, (algorithm, _, algorithm_is, (issuer, after, issuer_is, others, three), two), one) = (
    version,
    _,
    version_is,
    (
      algorithm,
      _,
      algorithm_is,
      (issuer, after, deeper_name d e le f.issuer issuer issuer_is, others, three),
      two,
    ),
    one,
  )

  tbs_list : (f : ListFields Revoked) (b : List ℕ) → IsTbsCertListWithin d f b → IsTbsCertListWithin e f b
  unfolding list_format
  tbs_list f b (content, fields_are, encoded) = (content, list_content f content fields_are, encoded)

  -- a revocation list under one bound of depth is one under a greater bound
  pub deeper_list : (r : CrlFields) (b : List ℕ) → IsCertificateListWithin d r b → IsCertificateListWithin e r b
  unfolding certificate_list_format certificate_list_content_format
  deeper_list r b (content, (same, (signed_is, fields_are)), encoded) =
      (content, (same, (signed_is, tbs_list r.fields r.signed_data.message fields_are)), encoded)
