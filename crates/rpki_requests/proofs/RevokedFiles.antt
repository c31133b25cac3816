-- The list before, and what is revoked: the only ones.
use Rattle.std.specs.Prelude.{Option, Some, None, Result, Ok, Err, IfErr, IfOk, map}
use Rattle.std.specs.declared.vec.Vec.{Vec}
use Rattle.std.specs.List.{AllZip}
use Rattle.std.proofs.Common.{◌≡◌, ◌≤◌, ◌⊎◌, inl, inr, ℕ, List, [], ◌∷◌, ◌++◌, length, refl, sym, ap, subst, ◌∙◌, arith}
use Rattle.std.proofs.lemmas.Simd.{map-map}
use Rattle.rpki_cert.specs.Certificates.{TbsFields, CertFields, IsCertificate}
use Rattle.rpki_crl.specs.Lists.{CrlFields, IsCertificateList}
use Rattle.rpki_crl.specs.RevokedEntries.{Entry}
use Rattle.rpki_crl.specs.RevokedEntries.Views.{entry_of}
use Rattle.rpki_crl.specs.declared.entry.CrlEntry.{CrlEntry}
use Rattle.rpki_der.specs.Times.{Moment}
use Rattle.rpki_der.specs.Values.{IsUnambiguous}
use Rattle.rpki_issuing.specs.OnlyValues.{IsOnly}
use Rattle.rpki_issuing.specs.ValueTexts.{IsSerialText}
use Rattle.rpki_requests.specs.OptionValues.{GivesEntries, GivesList, IsMomentSaid, SaysAtMostOnce, SaysOnce}
use Rattle.rpki_requests.specs.OptionValues.{given_alone, revoked_at}
use Rattle.rpki_requests.specs.RequestFiles.{IsOwnListIn, IsPreviousOf, IsRevokedFile}
use Rattle.rpki_issuing.specs.Issuers.{IsOwnList}
use Rattle.rpki_requests.specs.RequestWords.{OptionFields, given_values}
use Rattle.rpki_requests.specs.declared.words.Setting.TheVariants.{Number, NextUpdate, Serial}
use Rattle.rpki_requests.specs.Refusals.{AnswersOnlyBy}
use Rattle.rpki_requests.specs.ToldRefusals.{HasListValue, IsOtherFile, IsUnsaid, IsValueOf, IsWantedFault}
use Rattle.rpki_requests.specs.declared.refusals.Refusal.{Refusal}
use Rattle.rpki_issuing.proofs.WholeOctets.{whole_only}
use Rattle.rpki_requests.proofs.OnlyAnswers.{both_only_by, may_be_by}
use Rattle.rpki_requests.proofs.RefusalCases.{told_by}

-- ---- the list before

module _ (issuer : TbsFields) (files : List (List ℕ)) where
  -- without a file there was none
  pub previous_none : files ≡ given_alone None → IsOnly (IsPreviousOf issuer files) None
  previous_none empty = (empty, only)
    where
      only : (other : Option CrlFields) → IsPreviousOf issuer files other → other ≡ None
      only None is = refl
      only (Some list) is = let both : [] ≡ is.octets ∷ [] = sym empty ∙ is.alone in absurd cc

  -- several files are no list
  pub previous_several : 2 ≤ length files → (other : Option CrlFields) → IsPreviousOf issuer files other → ⊥
  previous_several many None is = let none : length files ≡ 0 = ap length is in absurd (omega arith)
  previous_several many (Some list) is =
      let one : length files ≡ 1 = ap length is.alone in absurd (omega arith)

  module _ (octets : List ℕ) (alone : files ≡ given_alone (Some octets)) where
    same_file : (other : List ℕ) → files ≡ other ∷ [] → other ≡ octets
    same_file other is = let both : other ∷ [] ≡ octets ∷ [] = sym is ∙ alone in cc

    -- the one that the file is
    pub previous_one : (list : CrlFields) → IsOnly (IsOwnListIn issuer octets) list →
        IsOnly (IsPreviousOf issuer files) (Some list)
    previous_one list one = (record { octets = octets; alone = alone; is_own = one.0 }, only)
      where
        only : (other : Option CrlFields) → IsPreviousOf issuer files other → other ≡ Some list
        only None is = let both : [] ≡ octets ∷ [] = sym is ∙ alone in absurd cc
        only (Some l) is = ap Some
            (one.1 l (subst (λ (b : List ℕ). IsOwnListIn issuer b l) (same_file is.octets is.alone) is.is_own))

    -- where the file is none
    pub previous_not : ((list : CrlFields) → IsOwnListIn issuer octets list → ⊥) → (other : Option CrlFields) →
        IsPreviousOf issuer files other → ⊥
    previous_not none None is = let both : [] ≡ octets ∷ [] = sym is ∙ alone in absurd cc
    previous_not none (Some l) is =
        none l (subst (λ (b : List ℕ). IsOwnListIn issuer b l) (same_file is.octets is.alone) is.is_own)

module _ (issuer : TbsFields) (octets : List ℕ) (one : IsUnambiguous IsCertificateList) (list : CrlFields)
    (is : IsCertificateList list octets) where
  -- the list that the octets are, where it is the issuer's
  pub own_is : IsOwnList issuer list → IsOnly (IsOwnListIn issuer octets) list
  own_is own = (
    record { is_list = is; own = own },
    λ other h. whole_only IsCertificateList one list other octets is
        h.is_list,
  )

  pub own_not : (IsOwnList issuer list → ⊥) → (other : CrlFields) → IsOwnListIn issuer octets other → ⊥
  own_not not other h =
      not (subst (λ (l : CrlFields). IsOwnList issuer l)
      (whole_only IsCertificateList one list other octets is h.is_list) h.own)

-- ---- a certificate that is revoked

module _ (issuer : TbsFields) (octets : List ℕ) (one : IsUnambiguous IsCertificate) (cert : CertFields)
    (is : IsCertificate cert octets) where
  pub revoked_is : cert.fields.extensions.authority_key_identifier ≡ Some issuer.extensions.subject_key_identifier →
      IsOnly (λ serial. IsRevokedFile issuer serial octets) cert.fields.serial
  revoked_is names = (
    record { cert = cert; is_cert = is; names = names; serial_is = refl },
    λ serial h. h.serial_is ∙ ap (λ (c : CertFields). c.fields.serial)
        (whole_only IsCertificate one cert h.cert octets is h.is_cert),
  )

  pub revoked_not : (cert.fields.extensions.authority_key_identifier ≡
      Some issuer.extensions.subject_key_identifier → ⊥) → (serial : ℕ) → IsRevokedFile issuer serial octets → ⊥
  revoked_not not serial h =
      not (subst (λ (c : CertFields). c.fields.extensions.authority_key_identifier ≡
      Some issuer.extensions.subject_key_identifier)
      (whole_only IsCertificate one cert h.cert octets is h.is_cert) h.names)

-- ---- what is wanted of the list

module _ (given : List OptionFields) (files : List (List ℕ)) (issuer : TbsFields) (at : Moment) where
  abbrev pub OfFiles : List ℕ → Type 0
  OfFiles serials = AllZip (IsRevokedFile issuer) serials files

  abbrev pub OfNumbers : List ℕ → Type 0
  OfNumbers serials = AllZip IsSerialText serials (given_values Serial given)

  -- both are, or one isn't
  pub both_revoked : {X Y : Type 0} (view : X → List ℕ) (look : Y → List ℕ) (first : Result X Refusal)
      (second : Result Y Refusal) (r : Result (X × Y) Refusal) →
      IfOk r (λ p. (first ≡ Ok p.0) × (second ≡ Ok p.1)) →
      IfErr r (λ why. (first ≡ Err why) ⊎ (second ≡ Err why)) →
      AnswersOnlyBy (IsOtherFile issuer files) view OfFiles first →
      AnswersOnlyBy (IsValueOf Serial) look OfNumbers second →
      AnswersOnlyBy (IsWantedFault given files issuer) (λ (p : X × Y). (view p.0, look p.1))
      (λ (p : List ℕ × List ℕ). OfFiles p.0 × OfNumbers p.1) r
  both_revoked view look first second r are why by_files by_numbers =
      let MayBe = IsWantedFault given files issuer in
      let some = may_be_by (IsOtherFile issuer files) MayBe view OfFiles first (λ w h. inr h) by_files in
      let said = told_by (HasListValue given) Serial look OfNumbers second (λ h. h) by_numbers in
      let others = may_be_by (IsUnsaid (HasListValue given)) MayBe look OfNumbers second (λ w h. inl h) said in
      both_only_by MayBe view look OfFiles OfNumbers first second r are why some others

  -- the entries of these serial numbers
  pub entries_ok : (es : List Entry) (by_files by_numbers : List ℕ) →
      es ≡ map (revoked_at at) (by_files ++ by_numbers) →
      IsOnly (λ (p : List ℕ × List ℕ). OfFiles p.0 × OfNumbers p.1) (by_files, by_numbers) →
      IsOnly (GivesEntries given files issuer at) es
  entries_ok es by_files by_numbers is only = (
    record {
      serials = by_files ++ by_numbers;
      serials_are = record {
        by_files = by_files;
        files_are = only.0.0;
        by_numbers = by_numbers;
        numbers_are =
            only.0.1;
        serials_are = refl;
      };
      entries_are = is;
    },
    λ fs h.
        let s = h.serials_are in
        let same = only.1 (s.by_files, s.by_numbers) (s.files_are, s.numbers_are) in
        h.entries_are ∙ ap (λ (l : List ℕ). map (revoked_at at) l)
        (s.serials_are ∙ ap (λ (p : List ℕ × List ℕ). p.0 ++ p.1) same) ∙ sym is,
  )

  pub entries_none : ((p : List ℕ × List ℕ) → OfFiles p.0 × OfNumbers p.1 → ⊥) → (es : List Entry) →
      GivesEntries given files issuer at es → ⊥
  entries_none none es h = let s = h.serials_are in none (s.by_files, s.by_numbers) (s.files_are, s.numbers_are)

  pub list_ok : (number : Option ℕ) (next : Moment) (es : List Entry) →
      IsOnly (λ n. SaysAtMostOnce IsSerialText (given_values Number given) n) number →
      IsOnly (λ m. SaysOnce IsMomentSaid (given_values NextUpdate given) m) next →
      IsOnly (GivesEntries given files issuer at) es →
      IsOnly (GivesList given files issuer at)
      (record { number = number; revoked = es; this_update = at; next_update = next })
  list_ok number next es one last all = (
    record { number_is = one.0; revoked_are = all.0; this_update_is = refl; next_update_is = last.0 },
    λ w h.
        let n = one.1 w.number h.number_is in
        let u = last.1 w.next_update h.next_update_is in
        let e = all.1 w.revoked h.revoked_are in
        let t = h.this_update_is in
        λ i. record { number = n i; revoked = e i; this_update = t i; next_update = u i },
  )

-- the code's entry that revokes this serial number
abbrev pub made_at : Moment → ℕ → CrlEntry
made_at at serial = record { user_certificate = serial; revocation_date = at }

-- the code's entries that revoke these serial numbers are seen so
pub entries_seen : {E Z : Type 0} (at : Moment) (serials : List ℕ) (r : Result (Vec CrlEntry Z) E) →
    IfOk r (λ v. v.items ≡ map (made_at at) serials) →
    IfOk r (λ v. map entry_of v.items ≡ map (revoked_at at) serials)
entries_seen at serials (Ok v) is =
    ap (λ (l : List CrlEntry). map entry_of l) is ∙ map-map entry_of (made_at at) serials
entries_seen at serials (Err e) is = tt
