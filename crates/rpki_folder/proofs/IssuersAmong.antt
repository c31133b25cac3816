-- The issuers of keys, one certificate more.
use Rattle.std.specs.BTreeMap.{BTreeMap, get, is_at}
use Rattle.std.specs.Cmp.Lexicographic.{slice_cmp}
use Rattle.std.specs.Ordering.{nat_cmp}
use Rattle.std.specs.Prelude.{Bool, true, false, Option, Some, None, cond, bytes_eq}
use Rattle.std.proofs.Common.{◌≡◌, ◌↔◌, ◌∙◌, ◌+◌, ◌<◌, ◌≤◌, ℕ, List, length, refl, sym, ap, subst, inl, inr, arith}
use Rattle.std.proofs.lemmas.Bool.{cases_eq}
use Rattle.std.proofs.lemmas.Map.Text.{is_eq-slice_cmp}
use Rattle.std.proofs.lemmas.Slice.Eq.{bytes_eq-Decides}
use Rattle.rpki_der.specs.Values.{IsUnambiguous}
use Rattle.rpki_der.proofs.Formats.{one_meant}
use Rattle.rpki_cert.specs.Certificates.{CertFields, IsCertificate}
use Rattle.rpki_cert.specs.SaidKinds.{BeginsWithSaid}
use Rattle.rpki_cert.specs.declared.saying.Said.{Said}
use Rattle.rpki_folder.proofs.Descent.{there as inside_at}
use Rattle.rpki_folder.specs.Folders.{HasSubjectKey, NamesSigner, string_at}
use Rattle.rpki_folder.specs.UnseenCertificates.{IsBetter, IsIssuerAmong, IsIssuerOf, IsKeyIssuer, IsWhyUnseen}
use Rattle.rpki_folder.specs.UnseenCertificates.{status_rank}
use Rattle.rpki_folder.specs.UnseenCertificates.{why_with}
use Rattle.rpki_folder.specs.declared.unseen.IssuerStatus.{IssuerStatus}
use Rattle.rpki_folder.specs.declared.unseen.KnownIssuer.{KnownIssuer}
use Rattle.rpki_folder.specs.declared.unseen.Unseen.{Unseen}
use Rattle.rpki_folder.specs.declared.unseen.Unseen.TheVariants.{NoIssuer}

-- what a certificate says of keys
module _ (one : IsUnambiguous IsCertificate) (octets : List ℕ) (said : Said) (begins : BeginsWithSaid said octets) where
  pub own_key : (key : List ℕ) → HasSubjectKey key octets ↔ (said.key ≡ key)
  own_key key = (
    λ h.
        let same : h.cert ≡ begins.0 = one_meant IsCertificate one h.cert begins.0 octets h.begins begins.1 in
        begins.2.key_is ∙ sym (ap (λ (c : CertFields). c.fields.extensions.subject_key_identifier) same) ∙ h.key_is,
    λ is. record { cert = begins.0; begins = begins.1; key_is = sym begins.2.key_is ∙ is },
  )

  pub signer_key : (key : List ℕ) → NamesSigner key octets ↔ (said.signer ≡ Some key)
  signer_key key = (
    λ h.
        let same : h.cert ≡ begins.0 = one_meant IsCertificate one h.cert begins.0 octets h.begins begins.1 in
        begins.2.signer_is ∙ sym (ap (λ (c : CertFields). c.fields.extensions.authority_key_identifier) same)
        ∙ h.names,
    λ is. record { cert = begins.0; begins = begins.1; names = sym begins.2.signer_is ∙ is },
  )

module _ (certs : List (List ℕ)) (statuses : ℕ → IssuerStatus) where
  -- a certificate more of which this key isn't
  pub of_others : (n : ℕ) (key : List ℕ) (o : Option KnownIssuer) → (HasSubjectKey key (string_at certs n) → ⊥) →
      IsIssuerAmong certs statuses n key o → IsIssuerAmong certs statuses (n + 1) key o
  of_others n key None not among = λ k low h. elim (cases_eq k n) [
    | inl at ↦ not (subst (λ (m : ℕ). HasSubjectKey key (string_at certs m)) at h)
    | inr apart ↦ among k (omega (arith, low, apart)) h
  ]
  of_others n key (Some i) not among = record {
    inside = let low = among.inside in omega (arith, low);
    has_key = among.has_key;
    status_is = among.status_is;
    best = λ k low h. elim (cases_eq k n) [
      | inl at ↦ absurd (not (subst (λ (m : ℕ). HasSubjectKey key (string_at certs m)) at h))
      | inr apart ↦ among.best k (omega (arith, low, apart)) h
    ];
    first = among.first;
  }

  -- of all certificates, where no more have a place
  pub of_all : (n : ℕ) (key : List ℕ) (o : Option KnownIssuer) → length certs ≤ n →
      IsIssuerAmong certs statuses n key o → IsIssuerAmong certs statuses (length certs) key o
  of_all n key None far among = λ k low h. among k (omega (arith, low, far)) h
  of_all n key (Some i) far among = record {
    inside = inside_at certs among.has_key.cert i.place among.has_key.begins;
    has_key = among.has_key;
    status_is = among.status_is;
    best = λ k low h. among.best k (omega (arith, low, far)) h;
    first = among.first;
  }

  module _ (n : ℕ) (key : List ℕ) where
    -- one of no better status
    pub stays : (o : Option KnownIssuer) → (IsBetter o (statuses n) → ⊥) → IsIssuerAmong certs statuses n key o →
        IsIssuerAmong certs statuses (n + 1) key o
    stays None not among = absurd (not tt)
    stays (Some i) not among = record {
      inside = let low = among.inside in omega (arith, low);
      has_key = among.has_key;
      status_is = among.status_is;
      best = λ k low h. elim (cases_eq k n) [
        | inl at ↦ subst (λ (m : ℕ). status_rank i.status ≤ status_rank (statuses m)) (sym at) (omega (arith, not))
        | inr apart ↦ among.best k (omega (arith, low, apart)) h
      ];
      first = among.first;
    }

    better_than : (o : Option KnownIssuer) → IsIssuerAmong certs statuses n key o → IsBetter o (statuses n) →
        (k : ℕ) → k < n → HasSubjectKey key (string_at certs k) → status_rank (statuses n) < status_rank (statuses k)
    better_than None among better k low h = absurd (among k low h)
    better_than (Some i) among better k low h = let least = among.best k low h in omega (arith, better, least)

    -- one of a better status
    pub taken : (o : Option KnownIssuer) → HasSubjectKey key (string_at certs n) → IsBetter o (statuses n) →
        IsIssuerAmong certs statuses n key o →
        IsKeyIssuer certs statuses (n + 1) key (record { place = n; status = statuses n })
    taken o has better among = record {
      inside = omega arith;
      has_key = has;
      status_is = refl;
      best = λ k low h. elim (cases_eq k n) [
        | inl at ↦ subst (λ (m : ℕ). status_rank (statuses n) ≤ status_rank (statuses m)) (sym at) (omega arith)
        | inr apart ↦
            let less = better_than o among better k (omega (arith, low, apart)) h in omega (arith, less)
      ];
      first = λ k low h. better_than o among better k low h;
    }

  -- ---- the table

  module _ (n : ℕ) (own : List ℕ) (says : (key : List ℕ) → HasSubjectKey key (string_at certs n) ↔ (own ≡ key))
      (table : BTreeMap (List ℕ) KnownIssuer) where
    abbrev kept : List ℕ → Option KnownIssuer
    kept key = get (slice_cmp nat_cmp) table key

    staying : (b : Bool) (key : List ℕ) → (b ≡ true → own ≡ key) → (own ≡ key → b ≡ true) →
        (IsBetter (kept own) (statuses n) → ⊥) → IsIssuerAmong certs statuses n key (kept key) →
        IsIssuerAmong certs statuses (n + 1) key (kept key)
    staying true key is_own own_is not among =
        stays n key (kept key)
        (subst (λ (k : List ℕ). IsBetter (kept k) (statuses n) → ⊥) (is_own refl) not) among
    staying false key is_own own_is not among =
        of_others n key (kept key) (λ h. let never = own_is ((says key).0 h) in absurd cc) among

    -- it stays
    pub not_taken : (IsBetter (kept own) (statuses n) → ⊥) → (key : List ℕ) →
        IsIssuerAmong certs statuses n key (kept key) → IsIssuerAmong certs statuses (n + 1) key (kept key)
    not_taken not key among =
        let decides = bytes_eq-Decides own key in
        staying (bytes_eq own key) key decides.0 decides.1 not among

    abbrev here : Option KnownIssuer
    here = Some (record { place = n; status = statuses n })

    taking : (b : Bool) (key : List ℕ) (o : Option KnownIssuer) → (b ≡ true → own ≡ key) → (own ≡ key → b ≡ true) →
        IsBetter (kept own) (statuses n) → IsIssuerAmong certs statuses n key (kept key) →
        o ≡ cond b here (kept key) → IsIssuerAmong certs statuses (n + 1) key o
    taking true key o is_own own_is better among is =
        let same = is_own refl in
        subst (λ (p : Option KnownIssuer). IsIssuerAmong certs statuses (n + 1) key p) (sym is)
        (taken n key (kept key) ((says key).1 same)
        (subst (λ (k : List ℕ). IsBetter (kept k) (statuses n)) same better) among)
    taking false key o is_own own_is better among is =
        subst (λ (p : Option KnownIssuer). IsIssuerAmong certs statuses (n + 1) key p) (sym is)
        (of_others n key (kept key) (λ h. let never = own_is ((says key).0 h) in absurd cc) among)

    -- it is taken into the table
    pub is_taken : (new : BTreeMap (List ℕ) KnownIssuer) →
        ((q : List ℕ) →
        get (slice_cmp nat_cmp) new q ≡ cond (is_at (slice_cmp nat_cmp own) q) here (kept q)) →
        IsBetter (kept own) (statuses n) → (key : List ℕ) → IsIssuerAmong certs statuses n key (kept key) →
        IsIssuerAmong certs statuses (n + 1) key (get (slice_cmp nat_cmp) new key)
    is_taken new sets better key among =
        let decides = bytes_eq-Decides own key in
        taking (bytes_eq own key) key (get (slice_cmp nat_cmp) new key) decides.0 decides.1 better among
        (sets key ∙ ap (λ (b : Bool). cond b here (kept key)) (is_eq-slice_cmp own key))

-- ---- certificates without a verdict

module _ (certs : List (List ℕ)) (statuses : ℕ → IssuerStatus) (octets : List ℕ) (said : Said)
    (one : IsUnambiguous IsCertificate) (begins : BeginsWithSaid said octets) where
  -- one that names no signer
  pub why_alone : said.signer ≡ None → IsWhyUnseen certs statuses octets NoIssuer
  why_alone none =
      (None, (λ key names. let never = sym none ∙ (signer_key one octets said begins key).0 names in absurd cc), refl)

  issuer_of : (key : List ℕ) → said.signer ≡ Some key → (o : Option KnownIssuer) →
      IsIssuerAmong certs statuses (length certs) key o → IsIssuerOf certs statuses octets o
  issuer_of key is (Some issuer) among = (key, (signer_key one octets said begins key).1 is, among)
  issuer_of key is None among = λ other names.
      let both = sym is ∙ (signer_key one octets said begins other).0 names in
      let same : key ≡ other = cc in
      subst (λ (k : List ℕ). IsIssuerAmong certs statuses (length certs) k None) same among

  -- one that names this key
  pub why_named : (key : List ℕ) → said.signer ≡ Some key → (o kept : Option KnownIssuer) → o ≡ kept →
      IsIssuerAmong certs statuses (length certs) key kept → (why : Unseen) → why ≡ why_with o →
      IsWhyUnseen certs statuses octets why
  why_named key is o kept same among why told =
      (kept, issuer_of key is kept among, told ∙ ap why_with same)
