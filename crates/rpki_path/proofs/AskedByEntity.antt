-- Who is asked for revocation looks at no more of an issuer than its key and its identifier.
use Rattle.std.specs.Prelude.{Bool, true, false, IsTrue}
use Rattle.std.proofs.Common.{ℕ, List, refl, sym, subst, ◌∙◌, inl, inr}
use Rattle.rpki_parts.specs.Keys.{KeyFields}
use Rattle.rpki_cert.specs.Certificates.{TbsFields, CertFields}
use Rattle.rpki_cert.specs.Verification.{Context, IsSignedBy}
use Rattle.rpki_crl.specs.Lists.{CrlFields, CrlState}
use Rattle.rpki_crl.specs.Stores.{Stored}
use Rattle.rpki_crl.specs.Revocation.{ListCheck}
use Rattle.rpki_crl.specs.declared.revocation_error.RevocationError.{RevocationError}
use Rattle.rpki_crl.specs.declared.revocation_error.RevocationError.TheVariants.{NoCrl, WrongKeyId, BadSignature}
use Rattle.rpki_crl.specs.declared.revocation_error.RevocationError.TheVariants.{Stale, Revoked, WrongIssuer}
use Rattle.rpki_path.specs.Asking.{nobody, by_uri}
use Rattle.rpki_path.specs.AskedLists.{IsForBelow, IsEligibleNamed, IsMisnamed, IsAskedOf, by_lists, by_named_lists}
use Rattle.rpki_path.specs.Repeats.{AreAlike, AsksByEntity}

turned : (names : Bool) (f g : TbsFields) → AreAlike names f g → AreAlike names g f
turned names f g alike = record {
  key_is = sym alike.key_is;
  identifier_is = sym alike.identifier_is;
  subject_is = λ asks. sym (alike.subject_is asks);
}

module _ (x : Context) (names : Bool) where
  list_check : (f g : TbsFields) → AreAlike names f g → (serial : ℕ) (list : CrlFields) (e : RevocationError) →
      ListCheck x f serial list e → ListCheck x g serial list e
  list_check f g alike serial list NoCrl h = h
  list_check f g alike serial list WrongKeyId h = h ∙ alike.identifier_is
  list_check f g alike serial list BadSignature h =
      subst (λ (key : KeyFields). IsSignedBy x.verifies key list.signed_data) alike.key_is h
  list_check f g alike serial list Stale h = h
  list_check f g alike serial list Revoked h = h
  list_check f g alike serial list WrongIssuer h = h

  pub nobody_by_entity : AsksByEntity names nobody
  nobody_by_entity f g c e alike h = h

  pub uri_by_entity : (pairs : List Stored) → AsksByEntity names (by_uri x pairs)
  uri_by_entity pairs f g c NoCrl alike h = h
  uri_by_entity pairs f g c WrongKeyId alike h = λ l is. list_check f g alike c.fields.serial l.list WrongKeyId (h l is)
  uri_by_entity pairs f g c BadSignature alike h = λ l is. list_check f g alike c.fields.serial l.list BadSignature
      (h l is)
  uri_by_entity pairs f g c Stale alike h = λ l is. list_check f g alike c.fields.serial l.list Stale (h l is)
  uri_by_entity pairs f g c Revoked alike h = λ l is. list_check f g alike c.fields.serial l.list Revoked (h l is)
  uri_by_entity pairs f g c WrongIssuer alike h = λ l is. list_check f g alike c.fields.serial l.list WrongIssuer
      (h l is)

  -- whether lists' names are asked; if they are, those of certificates are
  module _ (asks : Bool) (both : IsTrue asks → IsTrue names) where
    for_alike : (f g : TbsFields) → AreAlike names f g → (c : CertFields) (l : CrlState) → IsForBelow asks f c l →
        IsForBelow asks g c l
    for_alike f g alike c l h = after asks both h where
      after : (named : Bool) → (IsTrue named → IsTrue names) → IsForBelow named f c l → IsForBelow named g c l
      after false both h = h
      after true both h = (h.0, h.1 ∙ alike.subject_is (both refl))

    eligible_alike : (f g : TbsFields) → AreAlike names f g → (c : CertFields) (l : CrlState) →
        IsEligibleNamed asks x.verifies x.now f c l → IsEligibleNamed asks x.verifies x.now g c l
    eligible_alike f g alike c l h = (
      for_alike f g alike c l h.0,
      subst (λ (key : KeyFields). IsSignedBy x.verifies key l.list.signed_data)
          alike.key_is h.1,
      h.2,
    )

    misnamed_alike : (f g : TbsFields) → AreAlike names f g → (c : CertFields) (l : CrlState) →
        IsMisnamed asks x.verifies f c l → IsMisnamed asks x.verifies g c l
    misnamed_alike f g alike c l h = (
      h.0,
      h.1,
      subst (λ (key : KeyFields). IsSignedBy x.verifies key l.list.signed_data) alike.key_is h.2,
      λ name. h.3 (name ∙ sym (alike.subject_is (both h.0))),
    )

    module _ (lists : List CrlState) where
      asked_alike : (f g : TbsFields) → AreAlike names f g → (c : CertFields) (l : CrlState) →
          IsAskedOf asks x lists f c l → IsAskedOf asks x lists g c l
      asked_alike f g alike c l (inl latest) = inl (record {
        inside = latest.inside;
        has = eligible_alike f g alike c l latest.has;
        stays = λ other at eligible.
            latest.stays other at (eligible_alike g f (turned names f g alike) c other eligible);
      })
      asked_alike f g alike c l (inr none) =
          inr (
            (λ other at eligible.
                none.0 other at (eligible_alike g f (turned names f g alike) c other eligible)),
            none.1,
            for_alike f g alike c l none.2,
          )

      module _ (f g : TbsFields) (c : CertFields) (alike : AreAlike names f g) where
        back : (l : CrlState) → IsAskedOf asks x lists g c l → IsAskedOf asks x lists f c l
        back l is = asked_alike g f (turned names f g alike) c l is

        lists_alike : (e : RevocationError) → by_named_lists asks x lists f c e → by_named_lists asks x lists g c e
        lists_alike NoCrl (inl h) = inl (h.0, asked_alike f g alike c h.0 h.1)
        lists_alike NoCrl (inr h) = inr (h.0, h.1, h.2, h.3, misnamed_alike f g alike c h.1 h.4)
        lists_alike WrongKeyId h = λ l is. list_check f g alike c.fields.serial l.list WrongKeyId (h l (back l is))
        lists_alike BadSignature h = λ l is. list_check f g alike c.fields.serial l.list BadSignature (h l (back l is))
        lists_alike Stale h = (
          (λ l is. h.0 l (back l is)),
          (λ l is. list_check f g alike c.fields.serial l.list Stale (h.1 l (back l is))),
        )
        lists_alike Revoked h = λ l is. list_check f g alike c.fields.serial l.list Revoked (h l (back l is))
        lists_alike WrongIssuer h = (h.0, asked_alike f g alike c h.0 h.1)

      named_by_entity : AsksByEntity names (by_named_lists asks x lists)
      named_by_entity f g c e alike h = lists_alike f g c alike e h

  pub lists_by_entity : (lists : List CrlState) → AsksByEntity names (by_lists x lists)
  lists_by_entity lists = named_by_entity false (λ no. absurd (cc no)) lists

  pub named_lists_by_entity : (lists : List CrlState) → AsksByEntity names (by_named_lists names x lists)
  named_lists_by_entity lists = named_by_entity names (λ asks. asks) lists
