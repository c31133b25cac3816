-- Files that strangers add don't change which trust anchor of a locator is chosen, if its key is none of
-- theirs: two valid ones of which neither is greater are one certificate.
use Rattle.std.specs.Cmp.{IsTotalOrder}
use Rattle.std.specs.Ordering.{ordering_reverse, ordering_then}
use Rattle.std.specs.declared.cmp.Ordering.{Ordering}
use Rattle.std.specs.declared.cmp.Ordering.TheVariants.{Less, Equal, Greater}
use Rattle.std.specs.Prelude.{Bool, Contains}
use Rattle.std.proofs.Common.{◌≡◌, ◌∙◌, ℕ, List, [], refl, sym, ap, subst}
use Rattle.std.proofs.lemmas.List.Elements.{Contains-get_or}
use Rattle.std.proofs.lemmas.Map.Lookups.{exact_bytes}
use Rattle.rpki_der.specs.Values.{IsUnambiguous, enc}
use Rattle.rpki_der.proofs.Answering.{whole_means}
use Rattle.rpki_der.proofs.Formats.{one_meant}
use Rattle.rpki_ext.specs.Kinds.{Means}
use Rattle.rpki_parts.specs.Algorithms.{Algorithm}
use Rattle.rpki_parts.specs.Keys.{KeyFields}
use Rattle.rpki_parts.specs.SignedDatas.{SignedFields}
use Rattle.rpki_parts.specs.Signatures.{SignatureFields}
use Rattle.rpki_cert.specs.Certificates.{CertFields, IsCertificate, IsTbsCertificate, TbsFields, certificate_content_format}
use Rattle.rpki_cert.specs.Verification.{Context}
use Rattle.rpki_keys.specs.Locators.{NamedTal}
use Rattle.rpki_path.specs.AskedLists.{by_named_lists}
use Rattle.rpki_folder.specs.Folders.{FolderFields, string_at}
use Rattle.rpki_folder.specs.FoundAnchors.{IsAnchorAt, IsValidAt, anchor_order}
use Rattle.rpki_folder.specs.Strangers.{AddsOnly}
use Rattle.rpki_folder.specs.Walks.{IsValidAnchor}
use Rattle.rpki_folder.proofs.TriedAnchors.{order_total}
use Rattle.rpki_isolation.specs.ToldWalks.{BeginAlike, IsAnchorIn}
use Rattle.rpki_isolation.proofs.FolderPaths.{default_same}
use Rattle.rpki_isolation.proofs.IsolatedAnchors.{anchors_same}

-- ---- the order

-- of which neither is less
neither : (o p : Ordering) → o ≡ ordering_reverse p → (o ≡ Less → ⊥) → (p ≡ Less → ⊥) → o ≡ Equal
neither Less p same not back = absurd (not refl)
neither Equal p same not back = refl
neither Greater Less same not back = absurd (back refl)
neither Greater Equal same not back = absurd (cc same)
neither Greater Greater same not back = absurd (cc same)

both_equal : (a b : Ordering) → ordering_then a b ≡ Equal → (a ≡ Equal) × (b ≡ Equal)
both_equal Less b is = absurd (cc is)
both_equal Equal b is = (refl, is)
both_equal Greater b is = absurd (cc is)

-- ---- certificates

certificate_data : (c : CertFields) (text : List ℕ) → IsCertificate c text → IsTbsCertificate c.fields c.signed_data.message
unfolding certificate_content_format
certificate_data c text s = s.1.1

same_signature : (s u : SignatureFields) → s.algorithm ≡ u.algorithm → s.value ≡ u.value → s ≡ u
same_signature s u algorithm value =
    ap (λ (a : Algorithm). record { algorithm = a; value = s.value }) algorithm
    ∙ ap (λ (v : List ℕ). record { algorithm = u.algorithm; value = v }) value

same_signed : (s u : SignedFields) → s.message ≡ u.message → s.signature.algorithm ≡ u.signature.algorithm →
    s.signature.value ≡ u.signature.value → s ≡ u
same_signed s u message algorithm value =
    ap (λ (m : List ℕ). record { message = m; signature = s.signature }) message
    ∙ ap (λ (g : SignatureFields). record { message = u.message; signature = g }) (same_signature s.signature u.signature algorithm value)

-- what one key would sign alike, with one algorithm inside and outside, is one certificate
one_certificate : IsUnambiguous IsTbsCertificate → (c d : CertFields) (a b : List ℕ) → Means IsCertificate c a → Means IsCertificate d b
    → c.fields.algorithm ≡ c.signed_data.signature.algorithm → d.fields.algorithm ≡ d.signed_data.signature.algorithm
    → c.signed_data.message ≡ d.signed_data.message → c.signed_data.signature.value ≡ d.signed_data.signature.value → c ≡ d
one_certificate law c d a b here there one other message value =
    let first : IsTbsCertificate c.fields d.signed_data.message = subst (λ (m : List ℕ). IsTbsCertificate c.fields m)
    message (certificate_data c here.1.text here.1.encoded) in
    let second = certificate_data d there.1.text there.1.encoded in
    let fields : c.fields ≡ d.fields = one_meant IsTbsCertificate law c.fields d.fields d.signed_data.message
    (whole_means IsTbsCertificate c.fields d.signed_data.message first)
    (whole_means IsTbsCertificate d.fields d.signed_data.message second) in
    let algorithm : c.signed_data.signature.algorithm ≡ d.signed_data.signature.algorithm =
    sym one ∙ ap (λ (f : TbsFields). f.algorithm) fields ∙ other in
    ap (λ (f : TbsFields). record { fields = f; signed_data = c.signed_data }) fields
    ∙ ap (λ (s : SignedFields). record { fields = d.fields; signed_data = s })
    (same_signed c.signed_data d.signed_data message algorithm value)

module _ (x : Context) (names : Bool) (t : NamedTal) (law : IsUnambiguous IsCertificate) where
  module _ (folder : FolderFields) where
    in_folder : (place : ℕ) (c : CertFields) →
        IsValidAt x (by_named_lists names x folder.lists) names t folder.certs place c →
        IsAnchorIn x names t folder c
    in_folder place c valid = record {
      octets = string_at folder.certs place;
      among = Contains-get_or folder.certs place [] valid.inside;
      begins = valid.stands;
      is_valid = valid.is_valid;
    }

    at_place : (c : CertFields) → IsAnchorIn x names t folder c →
        (k : ℕ) × IsValidAt x (by_named_lists names x folder.lists) names t folder.certs k c
    at_place c h =
        let k = h.among.0 in
        let low = h.among.1 in
        let there : string_at folder.certs k ≡ h.octets = default_same folder.certs k [] h.octets low ∙ h.among.2 in (
          k,
          record {
            inside = low;
            stands = subst (λ (o : List ℕ). Means IsCertificate c o) (sym there) h.begins;
            is_valid = subst (λ (o : List ℕ). IsValidAnchor x (by_named_lists names x folder.lists) names t o) (sym there) h.is_valid;
          },
        )

    one_algorithm : (place : ℕ) (c : CertFields) →
        IsValidAt x (by_named_lists names x folder.lists) names t folder.certs place c →
        c.fields.algorithm ≡ c.signed_data.signature.algorithm
    one_algorithm place c valid =
        let l = valid.is_valid.1 in
        let same : l.path.anchor ≡ c = one_meant IsCertificate law l.path.anchor c (string_at folder.certs place)
        l.path_of.anchor_begins valid.stands in
        subst (λ (d : CertFields). d.fields.algorithm ≡ d.signed_data.signature.algorithm) same l.is_valid.is_valid.anchor_meets.0

  pub chosen_same : IsUnambiguous IsTbsCertificate → (keys : List KeyFields) → (Contains keys t.tal.key → ⊥) →
      (old new : FolderFields) → AddsOnly x.verifies keys old new → (place other : ℕ)
      → IsAnchorAt x (by_named_lists names x old.lists) names t old.certs place
      → IsAnchorAt x (by_named_lists names x new.lists) names t new.certs other →
      BeginAlike (string_at old.certs place) (string_at new.certs other)
  chosen_same fields_law keys own old new adds place other a b =
      let c = a.cert in
      let d = b.cert in
      let k = at_place new c ((anchors_same x names t law keys own old new adds c).0 (in_folder old place c a.valid)) in
      let j = at_place old d ((anchors_same x names t law keys own old new adds d).1 (in_folder new other d b.valid)) in
      let not : anchor_order c d ≡ Less → ⊥ = a.greatest j.0 d j.1 in
      let back : anchor_order d c ≡ Less → ⊥ = b.greatest k.0 c k.1 in
      let equal : anchor_order c d ≡ Equal = neither (anchor_order c d) (anchor_order d c) (order_total.antisymm c d) not back in
      let last = both_equal _ _ equal in
      let messages = both_equal _ _ last.0 in
      let same : c ≡ d = one_certificate fields_law c d (string_at old.certs place) (string_at new.certs other)
      a.valid.stands b.valid.stands
      (one_algorithm old place c a.valid) (one_algorithm new other d b.valid)
      (exact_bytes c.signed_data.message d.signed_data.message messages.1)
      (exact_bytes c.signed_data.signature.value d.signed_data.signature.value last.1) in
      (c, a.valid.stands, subst (λ (e : CertFields). Means IsCertificate e (string_at new.certs other)) (sym same) b.valid.stands)
