-- Two folders whose lists can be asked alike find the same faults, unless no list can be asked.
use Rattle.std.specs.Prelude.{Bool, true, false, Option, None, Some}
use Rattle.std.proofs.Common.{◌≡◌, ◌≢◌, ◌⊎◌, ◌↔◌, ℕ, List, [], ◌∷◌, ◌++◌, refl, sym, ap, subst, ◌∙◌, inl, inr, append_assoc, arith}
use Rattle.std.proofs.lemmas.List.{append-nil}
use Rattle.rpki_der.specs.Values.{IsUnambiguous}
use Rattle.rpki_der.proofs.Formats.{one_meant}
use Rattle.rpki_ext.specs.Kinds.{Means}
use Rattle.rpki_parts.specs.Conditions.{IsFirstFalse}
use Rattle.rpki_parts.specs.ValidAt.{IsNotAfter}
use Rattle.rpki_cert.specs.Certificates.{TbsFields, CertFields, IsCertificate}
use Rattle.rpki_cert.specs.Profiles.{MeetsProfile, IsFirstFault, Lacks, faults}
use Rattle.rpki_cert.specs.Verification.{Context, IsSignedBy, IsVerified}
use Rattle.rpki_cert.specs.declared.inspect.Kind.{Kind}
use Rattle.rpki_ext.specs.declared.inspection.InspectionError.{InspectionError}
use Rattle.rpki_cert.specs.declared.verification_error.VerificationError.{VerificationError}
use Rattle.rpki_cert.proofs.Checks.{first_map, first_not_all, one_first, all_map}
use Rattle.rpki_crl.specs.Lists.{CrlFields, CrlState}
use Rattle.rpki_crl.specs.Revocation.{NamesIssuer, ListCheck, revocation_checks}
use Rattle.rpki_crl.specs.declared.revocation_error.RevocationError.{RevocationError}
use Rattle.rpki_crl.specs.declared.revocation_error.RevocationError.TheVariants.{NoCrl, BadSignature, Stale, Revoked, WrongIssuer}
use Rattle.rpki_path.specs.AskedLists.{IsAskedOf, IsEligibleNamed, IsFor, IsForBelow, HasBegun, HaveNone, IsLatest, by_named_lists}
use Rattle.rpki_path.specs.AskedLists.Steps.{IsLatestIfAny}
use Rattle.rpki_path.specs.declared.path_fault.PathFault.{PathFault}
use Rattle.rpki_path.specs.declared.path_fault.PathFault.TheVariants.{Decode, Inspect, Verify, Revocation, Memory}
use Rattle.rpki_path.specs.Paths.{Finds}
use Rattle.rpki_path.proofs.LatestLists.{kept_next, kept_same}
use Rattle.rpki_folder.proofs.IsolatedPaths.{SameEligible, eligible_same, superseded_same, supersedes_same}
use Rattle.rpki_isolation.specs.ToldWalks.{IsForWantOfList}

-- ---- a latest list

module _ (P : CrlState → Type 0) (c : CertFields) where
  -- of lists that were gone over one is the latest, or none has P; it can't be denied
  abbrev Undenied : List CrlState → Type 0
  Undenied seen = ((kept : Option CrlState) → IsLatestIfAny P c seen kept → ⊥) → ⊥

  one_more : (seen : List CrlState) (l : CrlState) → Undenied seen → Undenied (seen ++ l ∷ [])
  one_more seen l h denied =
      h (λ kept is.
      denied kept (kept_same P c seen kept l is
      (λ goes. denied (Some l) (kept_next P c seen kept l is goes.0 goes.1))))

  all_gone : (seen rest : List CrlState) → Undenied seen → Undenied (seen ++ rest)
  all_gone seen [] h = subst Undenied (sym (append-nil seen)) h
  all_gone seen (l ∷ rest) h = subst Undenied (append_assoc seen (l ∷ []) rest) (all_gone (seen ++ l ∷ []) rest (one_more seen l h))

  nothing_gone : Undenied []
  nothing_gone denied = denied None (λ l at has. absurd (omega (arith, at.1)))

  -- where none is the latest, none has P
  pub none_latest : (lists : List CrlState) → ((l : CrlState) → IsLatest P c lists l → ⊥) → HaveNone P lists
  none_latest lists never l at has = all_gone [] lists nothing_gone (λ kept is. by_kept kept is) where
    by_kept : (kept : Option CrlState) → IsLatestIfAny P c lists kept → ⊥
    by_kept None none = none l at has
    by_kept (Some k) latest = never k latest

-- ---- lists that can be asked alike

-- what is for a certificate names its signer's key
for_key : (names : Bool) (issuer : TbsFields) (c : CertFields) (l : CrlState) → IsForBelow names issuer c l → IsFor c l
for_key false issuer c l h = h
for_key true issuer c l h = h.0

abbrev Want : RevocationError → Type 0
Want e = IsForWantOfList (Revocation e)

want : (d e : RevocationError) → d ≡ e → Want e → Want d
want d e is h = subst Want (sym is) h

module _ (names : Bool) (x : Context) (issuer : TbsFields) (c : CertFields) where
  abbrev Fits : CrlState → Type 0
  Fits l = IsEligibleNamed names x.verifies x.now issuer c l

  abbrev Fails : List CrlState → RevocationError → Type 0
  Fails lists e = IsFirstFalse (by_named_lists names x lists issuer c) revocation_checks e

  module _ (lists others : List CrlState) (same : SameEligible names x issuer c lists others) where
    none_there : HaveNone Fits lists → HaveNone Fits others
    none_there none k at fits = let l = same.back k at fits in none l.0 l.1 (eligible_same names x issuer c k l.0 l.2 fits)

    none_here : HaveNone Fits others → HaveNone Fits lists
    none_here none l at fits = let k = same.there l at fits in none k.0 k.1 (eligible_same names x issuer c l k.0 k.2 fits)

    -- where a list can be asked, those that are asked of the others are asked of these
    module _ (some : HaveNone Fits lists → ⊥) where
      asked_back : (k : CrlState) → IsAskedOf names x others issuer c k →
          (m : CrlState) × IsAskedOf names x lists issuer c m × (m.list ≡ k.list)
      asked_back k (inl latest) =
          let m = same.back k latest.inside latest.has in (
            m.0,
            inl (record {
              inside = m.1;
              has = eligible_same names x issuer c k m.0 m.2 latest.has;
              stays = λ other at eligible supersedes.
                  let o = same.there other at eligible in
                  latest.stays o.0 o.1 (eligible_same names x issuer c other o.0 o.2 eligible)
                  (supersedes_same names x issuer c other o.0 k o.2 (superseded_same names x issuer c m.0 k other (sym m.2) supersedes));
            }),
            m.2,
          )
      asked_back k (inr none) = absurd (some (none_here none.0))

      -- what is true of their time is true there
      stale_there : by_named_lists names x lists issuer c Stale → by_named_lists names x others issuer c Stale
      stale_there h = (
        (λ k at. let m = asked_back k at in subst (λ (list : CrlFields). HasBegun x.now list) m.2 (h.0 m.0 m.1)),
        (λ k at. let m = asked_back k at in subst (λ (list : CrlFields). IsNotAfter x.now list.fields.next_update) m.2 (h.1 m.0 m.1)),
      )

  -- ---- one folder's lists

  module _ (lists : List CrlState) where
    abbrev IsAsked : CrlState → Type 0
    IsAsked l = IsAskedOf names x lists issuer c l

    -- why it fails
    data Reason (e : RevocationError) : Type 0 where
      wanting : Want e → HaveNone Fits lists → Reason e
      late : e ≡ Stale → (by_named_lists names x lists issuer c Stale → ⊥) → Reason e
      listed : e ≡ Revoked → (HaveNone Fits lists → ⊥) → by_named_lists names x lists issuer c Stale → Reason e

    -- if one that is asked isn't signed, none can be asked
    none_signed : (by_named_lists names x lists issuer c BadSignature → ⊥) → HaveNone Fits lists
    none_signed unsigned l at fits = unsigned (λ k asked. signed k asked) where
      signed : (k : CrlState) → IsAsked k → IsSignedBy x.verifies issuer.key k.list.signed_data
      signed k (inl last) = last.has.1
      signed k (inr none) = absurd (none.0 l at fits)

    -- if one is signed, in its time, and revokes, one can be asked
    some_fits : by_named_lists names x lists issuer c BadSignature → by_named_lists names x lists issuer c Stale →
        (by_named_lists names x lists issuer c Revoked → ⊥) → HaveNone Fits lists → ⊥
    some_fits signed begun revoked none = revoked (λ k asked. free k asked) where
      free : (k : CrlState) → IsAsked k → ListCheck x issuer c.fields.serial k.list Revoked
      free k (inl latest) = absurd (none k latest.inside latest.has)
      free k (inr only) = absurd (none k only.1 (only.2, signed k (inr only), begun.0 k (inr only)))

    module _ (names_key : c.fields.extensions.authority_key_identifier ≡ Some issuer.extensions.subject_key_identifier) where
      named : (l : CrlState) → IsAsked l → NamesIssuer issuer l.list
      named l (inl latest) = let is : IsFor c l = for_key names issuer c l latest.has.0 in cc (sym is ∙ names_key)
      named l (inr none) = let is : IsFor c l = for_key names issuer c l none.2 in cc (sym is ∙ names_key)

      reason : (e : RevocationError) → Fails lists e → Reason e
      reason e (inl h) = wanting (want e NoCrl h.0 tt) (none_latest Fits c lists (λ l latest. h.1 (inl (l, inl latest))))
      reason e (inr (a, inl h)) = absurd (h.1 named)
      reason e (inr (a, inr (b, inl h))) = wanting (want e BadSignature h.0 tt) (none_signed h.1)
      reason e (inr (a, inr (b, inr (s, inl h)))) = late h.0 h.1
      reason e (inr (a, inr (b, inr (s, inr (t, inl h))))) = listed h.0 (some_fits s t h.1) t
      reason e (inr (a, inr (b, inr (s, inr (t, inr (r, inl h)))))) =
          wanting (want e WrongIssuer h.0 tt) (none_latest Fits c lists (λ l latest. h.1 (l, inl latest)))
      reason e (inr (a, inr (b, inr (s, inr (t, inr (r, inr h)))))) = absurd h.1

  -- ---- both

  turned : (lists others : List CrlState) → SameEligible names x issuer c lists others → SameEligible names x issuer c others lists
  turned lists others same = record { there = same.back; back = same.there }

  module _ (lists others : List CrlState) (same : SameEligible names x issuer c lists others) where
    abbrev Alike : RevocationError → RevocationError → Type 0
    Alike d e = (d ≡ e) ⊎ (Want d × Want e × HaveNone Fits lists)

    reasons_alike : (d e : RevocationError) → Reason lists d → Reason others e → Alike d e
    reasons_alike d e (wanting w n) (wanting v m) = inr (w, v, n)
    reasons_alike d e (wanting w n) (late j m) = inr (w, want e Stale j tt, n)
    reasons_alike d e (wanting w n) (listed j some s) = absurd (some (none_there lists others same n))
    reasons_alike d e (late i n) (wanting v m) = inr (want d Stale i tt, v, none_here lists others same m)
    reasons_alike d e (late i n) (late j m) = inl (i ∙ sym j)
    reasons_alike d e (late i n) (listed j some s) = absurd (n (stale_there others lists (turned lists others same) some s))
    reasons_alike d e (listed i some s) (wanting v m) = absurd (some (none_here lists others same m))
    reasons_alike d e (listed i some s) (late j m) = absurd (m (stale_there lists others same some s))
    reasons_alike d e (listed i some s) (listed j any t) = inl (i ∙ sym j)

    -- the first check that a certificate fails, which names the issuer's key
    pub lists_alike : c.fields.extensions.authority_key_identifier ≡ Some issuer.extensions.subject_key_identifier →
        (d e : RevocationError) → Fails lists d → Fails others e → Alike d e
    lists_alike names_key d e h k = reasons_alike d e (reason lists names_key d h) (reason others names_key e k)

-- ---- faults of one certificate

module _ (x : Context) (law : IsUnambiguous IsCertificate) (c : CertFields) (kind : Kind)
    (checks : List VerificationError) (NoList : Type 0) where
  abbrev AreAlike : PathFault → PathFault → Type 0
  AreAlike e f = (e ≡ f) ⊎ (IsForWantOfList e × IsForWantOfList f × NoList)

  -- what is found of it
  abbrev Found : (VerificationError → Type 0) → (RevocationError → Type 0) → PathFault → Type 0
  Found check asked (Decode e) = ⊥
  Found check asked (Inspect e) = IsFirstFault kind x.strict c e
  Found check asked (Verify e) = MeetsProfile kind x.strict c × IsFirstFalse check checks e
  Found check asked (Revocation e) = MeetsProfile kind x.strict c × IsVerified check checks × IsFirstFalse asked revocation_checks e
  Found check asked Memory = ⊥

  pub found_of : (check : CertFields → VerificationError → Type 0) (asked : CertFields → RevocationError → Type 0)
      (octets : List ℕ) → Means IsCertificate c octets → (e : PathFault) → e ≢ Memory
      → Finds x (record { kind = kind; check = check; checks = checks; asked_check = asked }) octets e → Found (check c) (asked c) e
  found_of check asked octets means (Decode e) apart h = absurd (h.1 c means)
  found_of check asked octets means (Inspect e) apart h = subst (λ (d : CertFields). IsFirstFault kind x.strict d e)
      (one_meant IsCertificate law h.0 c octets h.1 means) h.2
  found_of check asked octets means (Verify e) apart h =
      subst (λ (d : CertFields). MeetsProfile kind x.strict d × IsFirstFalse (check d) checks e)
      (one_meant IsCertificate law h.0 c octets h.1 means) h.2
  found_of check asked octets means (Revocation e) apart h =
      subst (λ (d : CertFields). MeetsProfile kind x.strict d × IsVerified (check d) checks ×
      IsFirstFalse (asked d) revocation_checks e) (one_meant IsCertificate law h.cert c octets h.begins means)
      (h.meets, h.verified, h.first)
  found_of check asked octets means Memory apart h = absurd (apart refl)

  module _ (check other : VerificationError → Type 0) (asked next : RevocationError → Type 0)
      (same : (e : VerificationError) → check e ↔ other e) (alike : IsVerified check checks →
      (d e : RevocationError) → IsFirstFalse asked revocation_checks d → IsFirstFalse next revocation_checks e →
      (d ≡ e) ⊎ (IsForWantOfList (Revocation d) × IsForWantOfList (Revocation e) × NoList)) where
    -- what is found by checks that are true alike is found alike
    pub faults_alike : (e f : PathFault) → Found check asked e → Found other next f → AreAlike e f
    faults_alike (Decode e) f h k = absurd h
    faults_alike Memory f h k = absurd h
    faults_alike (Inspect e) (Decode f) h k = absurd k
    faults_alike (Inspect e) Memory h k = absurd k
    faults_alike (Inspect e) (Inspect f) h k =
        inl (ap (λ (n : InspectionError). let m : PathFault = Inspect n in m)
        (one_first (Lacks kind x.strict c) (faults kind) e f h k))
    faults_alike (Inspect e) (Verify f) h k = absurd (first_not_all (Lacks kind x.strict c) (faults kind) e h k.0)
    faults_alike (Inspect e) (Revocation f) h k = absurd (first_not_all (Lacks kind x.strict c) (faults kind) e h k.0)
    faults_alike (Verify e) (Decode f) h k = absurd k
    faults_alike (Verify e) Memory h k = absurd k
    faults_alike (Verify e) (Inspect f) h k = absurd (first_not_all (Lacks kind x.strict c) (faults kind) f k h.0)
    faults_alike (Verify e) (Verify f) h k =
        inl (ap (λ (n : VerificationError). let m : PathFault = Verify n in m)
        (one_first other checks e f (first_map check other checks e same h.1) k.1))
    faults_alike (Verify e) (Revocation f) h k = absurd (first_not_all other checks e (first_map check other checks e same h.1) k.1)
    faults_alike (Revocation e) (Decode f) h k = absurd k
    faults_alike (Revocation e) Memory h k = absurd k
    faults_alike (Revocation e) (Inspect f) h k = absurd (first_not_all (Lacks kind x.strict c) (faults kind) f k h.0)
    faults_alike (Revocation e) (Verify f) h k =
        absurd (first_not_all other checks f k.1 (all_map check other checks (λ n. (same n).0) h.1))
    faults_alike (Revocation e) (Revocation f) h k = elim (alike h.1 e f h.2 k.2) [
      | inl is ↦ inl (ap (λ (n : RevocationError). let m : PathFault = Revocation n in m) is)
      | inr none ↦ inr none
    ]
