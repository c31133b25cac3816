-- The checks of the lists that are asked are those of the certificate, with and without names.
use Rattle.std.specs.Prelude.{Any, Bool, true, false, Some, Result, Ok, Err, Contains, IsTrue}
use Rattle.std.proofs.Common.{◌≡◌, ℕ, List, refl, sym, ◌∙◌, inl, inr, arith}
use Rattle.std.proofs.lemmas.Bool.{false≢true}
use Rattle.rpki_parts.specs.Conditions.{IsFirstFalse, Tests}
use Rattle.rpki_parts.specs.ValidAt.{IsNotAfter}
use Rattle.rpki_cert.specs.Certificates.{TbsFields, CertFields}
use Rattle.rpki_cert.specs.Verification.{Context, IsSignedBy}
use Rattle.rpki_crl.specs.Lists.{CrlState}
use Rattle.rpki_crl.specs.Revocation.{NamesIssuer, ListCheck, revocation_checks}
use Rattle.rpki_crl.specs.declared.revocation_error.RevocationError.{RevocationError}
use Rattle.rpki_crl.specs.declared.revocation_error.RevocationError.TheVariants.{NoCrl, WrongKeyId, BadSignature}
use Rattle.rpki_crl.specs.declared.revocation_error.RevocationError.TheVariants.{Stale, Revoked, WrongIssuer}
use Rattle.rpki_path.specs.Asking.{IsUnrevokedBy}
use Rattle.rpki_path.specs.AskedLists.{IsFor, IsNamedBy, IsForBelow, IsEligibleNamed, Revokes, HaveNone, IsLatest}
use Rattle.rpki_path.specs.AskedLists.{IsAskedOf, by_named_lists, FailsBy, IsSaidBy, LeavesUnrevoked}
use Rattle.rpki_path.specs.AskedLists.Steps.{EachHas}
use Rattle.rpki_path.proofs.ListOrder.{Alike, alike}

one_key : (k l : List ℕ) → Some k ≡ Some l → k ≡ l
one_key k l e = cc e

-- what is for a certificate below its issuer is for the certificate, and has the issuer's name
for_key : (names : Bool) (issuer : TbsFields) (c : CertFields) (l : CrlState) → IsForBelow names issuer c l → IsFor c l
for_key false issuer c l h = h
for_key true issuer c l h = h.0

for_name : (names : Bool) (issuer : TbsFields) (c : CertFields) (l : CrlState) → IsForBelow names issuer c l →
    IsTrue names → IsNamedBy issuer l.list
for_name true issuer c l h asked = h.1
for_name false issuer c l h asked = absurd (false≢true asked)

-- what is for the certificate, but not below its issuer, has another name, and names are asked
no_name : (names : Bool) (issuer : TbsFields) (c : CertFields) (l : CrlState) → (IsForBelow names issuer c l → ⊥) →
    IsFor c l → IsTrue names × (IsNamedBy issuer l.list → ⊥)
no_name true issuer c l not is = (refl, λ name. not (is, name))
no_name false issuer c l not is = absurd (not is)

module _ (names : Bool) (x : Context) (lists : List CrlState) (issuer : TbsFields) (c : CertFields) where
  abbrev Fits : CrlState → Type 0
  Fits l = IsEligibleNamed names x.verifies x.now issuer c l

  abbrev IsAsked : CrlState → Type 0
  IsAsked l = IsAskedOf names x lists issuer c l

  asked_inside : (l : CrlState) → IsAsked l → Contains lists l
  asked_inside l (inl h) = h.inside
  asked_inside l (inr h) = h.1

  abbrev Suits : CrlState → Type 0
  Suits l = IsForBelow names issuer c l

  asked_for : (l : CrlState) → IsAsked l → Suits l
  asked_for l (inl h) = h.has.0
  asked_for l (inr h) = h.2

  asked_key : (l : CrlState) → IsAsked l → IsFor c l
  asked_key l is = for_key names issuer c l (asked_for l is)

  abbrev Signs : CrlState → Type 0
  Signs l = IsSignedBy x.verifies issuer.key l.list.signed_data

  -- ---- no list is for the certificate, with the issuer's name if names are asked

  module _ (none : HaveNone Suits lists) where
    none_asked : (l : CrlState) → IsAsked l → ⊥
    none_asked l is = none l (asked_inside l is) (asked_for l is)

    -- nor did the issuer's key sign one of another name
    pub no_list : HaveNone (λ l. IsFor c l × Signs l) lists →
        IsFirstFalse (by_named_lists names x lists issuer c) revocation_checks NoCrl
    no_list unsigned = inl (
      refl,
      λ h. elim h [
        | inl asked ↦ none_asked asked.0 asked.1
        | inr misnamed ↦ unsigned misnamed.1 (misnamed.0, misnamed.2, misnamed.3) (misnamed.4.1, misnamed.4.2)
      ],
    )

    -- it signed this one, which has another name
    pub other_name : (l : CrlState) → Contains lists l → IsFor c l → Signs l →
        IsFirstFalse (by_named_lists names x lists issuer c) revocation_checks WrongIssuer
    other_name l inside is signed =
        let misnamed = no_name names issuer c l (none l inside) is in
        inr (
          inr (inside.0, l, inside.1, inside.2, (misnamed.0, is, signed, misnamed.1)),
          inr (
            (λ k at. absurd (none_asked k at)),
            inr (
              (λ k at. absurd (none_asked k at)),
              inr (
                ((λ k at. absurd (none_asked k at)), (λ k at. absurd (none_asked k at))),
                inr ((λ k at. absurd (none_asked k at)), inl (refl, λ h. none_asked h.0 h.1)),
              ),
            ),
          ),
        )

  -- ---- this list is asked

  module _ (l : CrlState) (is : IsAsked l) where
    pub wrong_key : (NamesIssuer issuer l.list → ⊥) →
        IsFirstFalse (by_named_lists names x lists issuer c) revocation_checks WrongKeyId
    wrong_key not = inr (inl (l, is), inl (refl, λ h. not (h l is)))

    -- they all name the key that the certificate names
    named : NamesIssuer issuer l.list → (k : CrlState) → IsAsked k → NamesIssuer issuer k.list
    named key k at = one_key k.list.fields.extensions.authority_key_identifier
        l.list.fields.extensions.authority_key_identifier (sym (asked_key k at) ∙ asked_key l is) ∙ key

  -- ---- no list is eligible, and this one is for the certificate

  module _ (none : HaveNone Fits lists) (l : CrlState) (one : Contains lists l × Suits l)
      (key : NamesIssuer issuer l.list) where
    asked_too : IsAsked l
    asked_too = inr (none, one.0, one.1)

    pub unsigned : (EachHas Suits Signs lists → ⊥) →
        IsFirstFalse (by_named_lists names x lists issuer c) revocation_checks BadSignature
    unsigned not = inr (
      inl (l, asked_too),
      inr (named l asked_too key, inl (refl, λ h. not (λ k inside is. h k (inr (none, inside, is))))),
    )

    pub not_begun : EachHas Suits Signs lists →
        IsFirstFalse (by_named_lists names x lists issuer c) revocation_checks Stale
    not_begun signed = inr (
      inl (l, asked_too),
      inr (
        named l asked_too key,
        inr (
          (λ k at. signed k (asked_inside k at) (asked_for k at)),
          inl (refl, λ h. none l one.0 (one.1, signed l one.0 one.1, h.0 l asked_too)),
        ),
      ),
    )

  -- ---- this list is the latest that is eligible

  module _ (l : CrlState) (last : IsLatest Fits c lists l) where
    -- each that is asked is such a one
    latest_too : (k : CrlState) → IsAsked k → IsLatest Fits c lists k
    latest_too k (inl h) = h
    latest_too k (inr h) = absurd (h.0 l last.inside last.has)

    alike_too : (k : CrlState) → IsAsked k → Alike c l k
    alike_too k at = let h = latest_too k at in
        alike c l k (h.stays l last.inside last.has) (last.stays k h.inside h.has)

    module _ (key : NamesIssuer issuer l.list) where
      signed : (k : CrlState) → IsAsked k → Signs k
      signed k at = (latest_too k at).has.1

      stale : (IsNotAfter x.now l.list.fields.next_update → ⊥) →
          IsFirstFalse (by_named_lists names x lists issuer c) revocation_checks Stale
      stale not = inr (
        inl (l, inl last),
        inr (named l (inl last) key, inr (signed, inl (refl, λ h. not (h.1 l (inl last))))),
      )

      module _ (lasts : IsNotAfter x.now l.list.fields.next_update) where
        current : by_named_lists names x lists issuer c Stale
        current = ((λ k at. (latest_too k at).has.2), (λ k at. omega (arith, lasts, (alike_too k at).next_update)))

        revoked : Revokes c l → IsFirstFalse (by_named_lists names x lists issuer c) revocation_checks Revoked
        revoked has = inr (
          inl (l, inl last),
          inr (named l (inl last) key, inr (signed, inr (current, inl (refl, λ h. h l (inl last) has)))),
        )

        unrevoked : (Revokes c l → ⊥) → IsUnrevokedBy (by_named_lists names x lists) issuer c
        unrevoked not = (
          inl (l, inl last),
          (
            named l (inl last) key,
            (signed, (current, ((λ k at has. not ((alike_too k at).revokes.1 has)), ((l, inl last), tt)))),
          ),
        )

      failed : (e : RevocationError) → FailsBy x.now c l e →
          IsFirstFalse (by_named_lists names x lists issuer c) revocation_checks e
      failed NoCrl f = absurd f
      failed WrongKeyId f = absurd f
      failed BadSignature f = absurd f
      failed Stale f = stale f
      failed Revoked f = revoked f.0 f.1
      failed WrongIssuer f = absurd f

      -- what it says is answered
      pub answered : {T : Type 0} (r : Result T RevocationError) → IsSaidBy x.now c l r →
          Tests (by_named_lists names x lists issuer c) revocation_checks r
      answered (Ok v) h = unrevoked h.0 h.1
      answered (Err e) f = failed e f

  -- ---- one of the lists is asked

  -- what is asked of it leaves the certificate unrevoked
  pub left_by_asked : IsUnrevokedBy (by_named_lists names x lists) issuer c →
      Any (λ l. LeavesUnrevoked names x issuer c l.list) lists
  left_by_asked h =
      let one = h.1.1.1.1.1.0 in
      let l = one.0 in
      let is = one.1 in
      let inside = asked_inside l is in (
        inside.0,
        l,
        inside.1,
        inside.2,
        record {
          named = for_name names issuer c l (asked_for l is);
          begun = h.1.1.1.0.0 l is;
          checks =
              check_of;
        },
      )
    where
      check_of : (e : RevocationError) → ListCheck x issuer c.fields.serial h.1.1.1.1.1.0.0.list e
      check_of NoCrl = tt
      check_of WrongKeyId = h.1.0 h.1.1.1.1.1.0.0 h.1.1.1.1.1.0.1
      check_of BadSignature = h.1.1.0 h.1.1.1.1.1.0.0 h.1.1.1.1.1.0.1
      check_of Stale = h.1.1.1.0.1 h.1.1.1.1.1.0.0 h.1.1.1.1.1.0.1
      check_of Revoked = h.1.1.1.1.0 h.1.1.1.1.1.0.0 h.1.1.1.1.1.0.1
      check_of WrongIssuer = tt
