-- Files that add nothing but what strangers can: their own, those of nobody, and copies.
use Rattle.std.specs.Prelude.{Contains}
use Rattle.std.proofs.Common.{◌≡◌, ◌⊎◌, ℕ, List, [], ◌∷◌, ◌++◌, refl, ap, subst, ◌∙◌, inl, inr, append_assoc}
use Rattle.std.proofs.lemmas.List.Elements.{Contains-append_left, Contains-push_cases}
use Rattle.rpki_der.specs.Values.{IsUnambiguous}
use Rattle.rpki_der.proofs.Formats.{one_meant}
use Rattle.rpki_ext.specs.Kinds.{Means}
use Rattle.rpki_parts.specs.Keys.{KeyFields}
use Rattle.rpki_parts.specs.Signatures.{Verifies}
use Rattle.rpki_cert.specs.Certificates.{CertFields, IsCertificate}
use Rattle.rpki_crl.specs.Lists.{CrlState}
use Rattle.rpki_folder.specs.Folders.{FolderFields, with_cert, with_list}
use Rattle.rpki_folder.specs.Strangers.{AddsOnly, HasCertificate, HasTwoAlgorithms, IsSignedByOnly}

-- with octets behind, it still begins with the certificate
means_more : (c : CertFields) (octets more : List ℕ) → Means IsCertificate c octets → Means IsCertificate c (octets ++ more)
means_more c octets more (rest, b) = (
  rest ++ more,
  record {
    text = b.text;
    encoded = b.encoded;
    parts = ap (λ (l : List ℕ). l ++ more) b.parts ∙
        append_assoc b.text rest more;
  },
)

module _ (law : IsUnambiguous IsCertificate) (verifies : Verifies) (keys : List KeyFields) (old : FolderFields) where
  -- what one further file of certificates adds, if the certificate with which it begins is such a one
  with_one : (octets : List ℕ) (c : CertFields) → Means IsCertificate c octets →
      HasCertificate old c ⊎ (IsSignedByOnly verifies keys c.signed_data ⊎ HasTwoAlgorithms c) →
      AddsOnly verifies keys old (with_cert old octets)
  with_one octets c means is = record {
    certs_stay = λ d (o, at, m). (o, Contains-append_left old.certs (octets ∷ []) o at, m);
    lists_stay = λ l at. (l, at, refl);
    certs_added = λ d (o, at, m). elim (Contains-push_cases old.certs octets o at) [
      | inl before ↦ inl (o, before, m)
      | inr last ↦
          let same : c ≡ d = one_meant IsCertificate law c d o (subst (λ (s : List ℕ). Means IsCertificate c s) last means) m in
          subst (λ (e : CertFields). HasCertificate old e ⊎ (IsSignedByOnly verifies keys e.signed_data ⊎ HasTwoAlgorithms e)) same is
    ];
    lists_added = λ l at. inl (l, at, refl);
  }

  -- a copy of a file, with whatever behind it
  pub copy_adds : (octets more : List ℕ) → Contains old.certs octets → (c : CertFields) →
      Means IsCertificate c octets → AddsOnly verifies keys old (with_cert old (octets ++ more))
  copy_adds octets more at c means = with_one (octets ++ more) c (means_more c octets more means) (inl (octets, at, means))

  -- a certificate that no other key signed
  pub own_adds : (octets : List ℕ) (c : CertFields) → Means IsCertificate c octets →
      IsSignedByOnly verifies keys c.signed_data → AddsOnly verifies keys old (with_cert old octets)
  own_adds octets c means only = with_one octets c means (inr (inl only))

  -- a list that no other key signed
  pub own_list_adds : (l : CrlState) → IsSignedByOnly verifies keys l.list.signed_data → AddsOnly verifies keys old (with_list old l)
  own_list_adds l only = record {
    certs_stay = λ d has. has;
    lists_stay = λ k at. (k, Contains-append_left old.lists (l ∷ []) k at, refl);
    certs_added = λ d has. inl has;
    lists_added = λ k at. elim (Contains-push_cases old.lists l k at) [
      | inl before ↦ inl (k, before, refl)
      | inr last ↦ inr (subst (λ (m : CrlState). IsSignedByOnly verifies keys m.list.signed_data) last only)
    ];
  }
