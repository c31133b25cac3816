-- Files that strangers add change no path on which no issuer has a key of theirs.
use Rattle.std.specs.List.{AllByRecursion}
use Rattle.std.specs.Prelude.{Bool, true, false, Contains}
use Rattle.std.proofs.Common.{◌≡◌, ◌↔◌, ◌+◌, ◌<◌, ℕ, zero, suc, List, [], ◌∷◌, length, map, get_or, sym, subst, inl}
use Rattle.std.proofs.Common.{inr, arith}
use Rattle.rpki_parts.specs.Keys.{KeyFields}
use Rattle.rpki_cert.specs.Certificates.{TbsFields, CertFields}
use Rattle.rpki_cert.specs.Profiles.{MeetsProfile}
use Rattle.rpki_cert.specs.Verification.{Context, IsSignedBy, TrustAnchorCheck, trust_anchor_checks, IsVerified}
use Rattle.rpki_cert.specs.declared.inspect.Kind.{Kind}
use Rattle.rpki_cert.specs.declared.inspect.Kind.TheVariants.{Anchor, Authority, EndEntity, Detached, Router}
use Rattle.rpki_crl.specs.Lists.{CrlFields, CrlState}
use Rattle.rpki_crl.specs.Revocation.{ListCheck}
use Rattle.rpki_crl.specs.declared.revocation_error.RevocationError.{RevocationError}
use Rattle.rpki_crl.specs.declared.revocation_error.RevocationError.TheVariants.{WrongKeyId, BadSignature, Stale}
use Rattle.rpki_crl.specs.declared.revocation_error.RevocationError.TheVariants.{Revoked}
use Rattle.rpki_path.specs.Asking.{IsUnrevokedBy}
use Rattle.rpki_path.specs.AskedLists.{IsEligibleNamed, HasBegun, IsForBelow, IsAskedOf, Supersedes, by_named_lists}
use Rattle.rpki_path.specs.Paths.{Path, Member, last, certificate_at, IsValidPath}
use Rattle.rpki_folder.specs.Folders.{FolderFields}
use Rattle.rpki_folder.specs.Strangers.{HasCertificate, AddsOnly, IsFreeOf, LeadsThrough}

-- ---- lists

-- a list that says the same is for the certificate too
for_same : (names : Bool) (issuer : TbsFields) (c : CertFields) (l k : CrlState) → k.list ≡ l.list →
    IsForBelow names issuer c l → IsForBelow names issuer c k
for_same false issuer c l k same h = rw same h
for_same true issuer c l k same h = rw same h

module _ (names : Bool) (x : Context) (issuer : TbsFields) (c : CertFields) where
  abbrev Eligible : CrlState → Type 0
  Eligible l = IsEligibleNamed names x.verifies x.now issuer c l

  -- a list that says the same and is signed alike is eligible too
  pub eligible_same : (l k : CrlState) → k.list ≡ l.list → Eligible l → Eligible k
  eligible_same l k same h = (
    for_same names issuer c l k same h.0,
    subst (λ (list : CrlFields). IsSignedBy x.verifies issuer.key list.signed_data) (sym same) h.1,
    subst (λ (list : CrlFields). HasBegun x.now list) (sym same) h.2,
  )

  -- and supersedes what that one does
  pub supersedes_same : (l k other : CrlState) → k.list ≡ l.list → Supersedes c l other → Supersedes c k other
  supersedes_same l k other same h = rw same h

  pub superseded_same : (l k other : CrlState) → k.list ≡ l.list → Supersedes c other l → Supersedes c other k
  superseded_same l k other same h = rw same h

  module _ (lists others : List CrlState) where
    -- each list of the first that can be asked is one of the second, and the other way round
    pub record SameEligible : Type 0 where
      pub there : (l : CrlState) → Contains lists l → Eligible l →
          (k : CrlState) × Contains others k × (k.list ≡ l.list)
      pub back : (k : CrlState) → Contains others k → Eligible k → (l : CrlState) × Contains lists l × (l.list ≡ k.list)

  -- a list whose checks are all true can be asked
  all_true : (lists : List CrlState) → IsUnrevokedBy (by_named_lists names x lists) issuer c → (l : CrlState) →
      Contains lists l → IsAskedOf names x lists issuer c l → IsForBelow names issuer c l → Eligible l
  all_true lists free l inside asked is_for = (is_for, free.1.1.0 l asked, free.1.1.1.0.0 l asked)

  -- the list that is asked can be asked, where none is revoked
  asked_eligible : (lists : List CrlState) → IsUnrevokedBy (by_named_lists names x lists) issuer c →
      (l : CrlState) → IsAskedOf names x lists issuer c l → Eligible l
  asked_eligible lists free l (inl latest) = latest.has
  asked_eligible lists free l (inr none) = all_true lists free l none.1 (inr none) none.2

  module _ (lists others : List CrlState) (same : SameEligible lists others)
      (free : IsUnrevokedBy (by_named_lists names x lists) issuer c) where
    latest_there : (l : CrlState) → IsAskedOf names x lists issuer c l → (k : CrlState) → Contains others k →
        k.list ≡ l.list → IsAskedOf names x others issuer c k
    latest_there l (inl latest) k inside is = inl (record {
      inside = inside;
      has = eligible_same l k is latest.has;
      stays = λ other at eligible supersedes.
          let o = same.back other at eligible in
          latest.stays o.0 o.1 (eligible_same other o.0 o.2 eligible)
          (supersedes_same other o.0 l o.2 (superseded_same k l other (sym is) supersedes));
    })
    latest_there l (inr none) k inside is = absurd (none.0 l none.1 (asked_eligible lists free l (inr none)))

    inside_of : (l : CrlState) → IsAskedOf names x lists issuer c l → Contains lists l
    inside_of l (inl latest) = latest.inside
    inside_of l (inr none) = none.1

    -- one can be asked of the second
    record Asked : Type 0 where
      list : CrlState
      inside : Contains others list
      eligible : Eligible list
      asked : IsAskedOf names x others issuer c list

    asked_there : Asked
    asked_there =
        let l = free.1.1.1.1.1.0 in
        let eligible = asked_eligible lists free l.0 l.1 in
        let k = same.there l.0 (inside_of l.0 l.1) eligible in
        record {
          list = k.0;
          inside = k.1;
          eligible = eligible_same l.0 k.0 k.2 eligible;
          asked =
              latest_there l.0 l.1 k.0 k.1 k.2;
        }

    -- what is asked of the second is asked of the first
    asked_back : (k : CrlState) → IsAskedOf names x others issuer c k →
        (l : CrlState) × IsAskedOf names x lists issuer c l × (l.list ≡ k.list)
    asked_back k (inl latest) =
        let l = same.back k latest.inside latest.has in (
          l.0,
          inl (record {
            inside = l.1;
            has = eligible_same k l.0 l.2 latest.has;
            stays = λ other at eligible supersedes.
                let o = same.there other at eligible in
                latest.stays o.0 o.1 (eligible_same other o.0 o.2 eligible)
                (supersedes_same other o.0 k o.2 (superseded_same l.0 k other (sym l.2) supersedes));
          }),
          l.2,
        )
    asked_back k (inr none) = absurd (none.0 asked_there.list asked_there.inside asked_there.eligible)

    checked : (e : RevocationError) →
        ((l : CrlState) → IsAskedOf names x lists issuer c l → ListCheck x issuer c.fields.serial l.list e) →
        (k : CrlState) → IsAskedOf names x others issuer c k → ListCheck x issuer c.fields.serial k.list e
    checked e check k at = let l = asked_back k at in
        subst (λ (list : CrlFields). ListCheck x issuer c.fields.serial list e) l.2 (check l.0 l.1)

    begun : (k : CrlState) → IsAskedOf names x others issuer c k → HasBegun x.now k.list
    begun k at = let l = asked_back k at in
        subst (λ (list : CrlFields). HasBegun x.now list) l.2 (free.1.1.1.0.0 l.0 l.1)

    pub unrevoked_there : IsUnrevokedBy (by_named_lists names x others) issuer c
    unrevoked_there = (
      inl (asked_there.list, asked_there.asked),
      (
        checked WrongKeyId free.1.0,
        (
          checked BadSignature free.1.1.0,
          (
            (begun, checked Stale free.1.1.1.0.1),
            (checked Revoked free.1.1.1.1.0, ((asked_there.list, asked_there.asked), tt)),
          ),
        ),
      ),
    )

-- ---- what strangers add

module _ (names : Bool) (x : Context) (keys : List KeyFields) (old new : FolderFields)
    (adds : AddsOnly x.verifies keys old new) where
  -- below an issuer without a key of theirs the same lists can be asked
  pub same_eligible : (issuer : TbsFields) → (Contains keys issuer.key → ⊥) → (c : CertFields) →
      SameEligible names x issuer c old.lists new.lists
  same_eligible issuer own c = record {
    there = λ l inside eligible. adds.lists_stay l inside;
    back = λ k inside eligible. elim (adds.lists_added k inside) [
      | inl there ↦ there
      | inr only ↦ absurd (own (only issuer.key eligible.1))
    ];
  }

  turned : (issuer : TbsFields) (c : CertFields) (lists others : List CrlState) →
      SameEligible names x issuer c lists others → SameEligible names x issuer c others lists
  turned issuer c lists others same = record { there = same.back; back = same.there }

  -- so the same certificates are revoked
  pub unrevoked_alike : (issuer : TbsFields) → (Contains keys issuer.key → ⊥) → (c : CertFields) →
      IsUnrevokedBy (by_named_lists names x old.lists) issuer c ↔ IsUnrevokedBy (by_named_lists names x new.lists)
      issuer c
  unrevoked_alike issuer own c =
      let same = same_eligible issuer own c in (
        (λ free. unrevoked_there names x issuer c old.lists new.lists same free),
        (λ free. unrevoked_there names x issuer c new.lists old.lists (turned issuer c old.lists new.lists same) free),
      )

  -- ---- paths

  module _ (p : Path) (free : IsFreeOf keys p) where
    valid_there : IsValidPath x (by_named_lists names x old.lists) p →
        IsValidPath x (by_named_lists names x new.lists) p
    valid_there valid = record {
      anchor_meets = valid.anchor_meets;
      members_meet = valid.members_meet;
      anchor_verified = valid.anchor_verified;
      members_verified = valid.members_verified;
      members_unrevoked = λ i low.
          (unrevoked_alike (certificate_at p i).fields (free i low) (certificate_at p (i + 1))).0
          (valid.members_unrevoked i low);
    }

    valid_back : IsValidPath x (by_named_lists names x new.lists) p → IsValidPath x (by_named_lists names x old.lists) p
    valid_back valid = record {
      anchor_meets = valid.anchor_meets;
      members_meet = valid.members_meet;
      anchor_verified = valid.anchor_verified;
      members_verified = valid.members_verified;
      members_unrevoked = λ i low.
          (unrevoked_alike (certificate_at p i).fields (free i low) (certificate_at p (i + 1))).1
          (valid.members_unrevoked i low);
    }

    one_algorithm : (l : List Member) → AllByRecursion (λ m. MeetsProfile m.kind x.strict m.cert) l →
        (n : ℕ) (d : CertFields) → n < length l
        → let c = get_or (map (λ (m : Member). m.cert) l) n d in c.fields.algorithm ≡ c.signed_data.signature.algorithm
    one_algorithm [] all n d h = absurd (omega (arith, h))
    one_algorithm (m ∷ l) all zero d h = of_kind m.kind m.cert all.0 where
      of_kind : (kind : Kind) (c : CertFields) → MeetsProfile kind x.strict c →
          c.fields.algorithm ≡ c.signed_data.signature.algorithm
      of_kind Anchor c h = h.0
      of_kind Authority c h = h.0
      of_kind EndEntity c h = h.0
      of_kind Detached c h = h.0
      of_kind Router c h = h.0
    one_algorithm (m ∷ l) all (suc n) d h = one_algorithm l all.1 n d (omega (arith, h))

    -- what an issuer without a key of theirs signed was there
    was_there : IsValidPath x (by_named_lists names x new.lists) p → (i : ℕ) → i < last p →
        HasCertificate new (certificate_at p (i + 1)) → HasCertificate old (certificate_at p (i + 1))
    was_there valid i low has = elim (adds.certs_added (certificate_at p (i + 1)) has) [
      | inl there ↦ there
      | inr (inl only) ↦ absurd
          (free i low (only (certificate_at p i).fields.key (valid.members_verified i low).1.1.1.1.1.0))
      | inr (inr two) ↦
          let one = one_algorithm p.below valid.members_meet i p.anchor low in
          let next : suc i ≡ i + 1 = omega arith in
          absurd (subst (λ (n : ℕ). (certificate_at p n).fields.algorithm ≡
          (certificate_at p n).signed_data.signature.algorithm → ⊥) (sym next) two one)
    ]

    pub leads_alike : LeadsThrough names x old p ↔ LeadsThrough names x new p
    leads_alike = (
      (λ h. record {
        is_valid = valid_there h.is_valid;
        members =
            λ i low. adds.certs_stay (certificate_at p (i + 1)) (h.members i low);
      }),
      (λ h. record {
        is_valid = valid_back h.is_valid;
        members =
            λ i low. was_there h.is_valid i low (h.members i low);
      }),
    )

  -- ---- trust anchors

  -- a valid one without a key of theirs is in both or in neither
  pub anchors_alike : (c : CertFields) → (Contains keys c.fields.key → ⊥) → MeetsProfile Anchor x.strict c →
      IsVerified (TrustAnchorCheck x c) trust_anchor_checks → HasCertificate old c ↔ HasCertificate new c
  anchors_alike c own meets verified = (
    (λ h. adds.certs_stay c h),
    (λ h. elim (adds.certs_added c h) [
      | inl there ↦ there
      | inr (inl only) ↦ absurd (own (only c.fields.key verified.1.1.1.1.1.0))
      | inr (inr two) ↦ absurd (two meets.0)
    ]),
  )
