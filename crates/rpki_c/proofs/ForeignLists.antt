-- What is asked of a certificate is the same with other lists, where those that are for the
-- certificate are the same.
use Rattle.std.specs.Prelude.{Bool, true, false, Contains}
use Rattle.std.proofs.Common.{◌↔◌, List, inl, inr}
use Rattle.rpki_cert.specs.Certificates.{TbsFields, CertFields}
use Rattle.rpki_cert.specs.Verification.{Context}
use Rattle.rpki_crl.specs.Lists.{CrlState}
use Rattle.rpki_crl.specs.declared.revocation_error.RevocationError.{RevocationError}
use Rattle.rpki_crl.specs.declared.revocation_error.RevocationError.TheVariants.{NoCrl, WrongKeyId, BadSignature}
use Rattle.rpki_crl.specs.declared.revocation_error.RevocationError.TheVariants.{Stale, Revoked, WrongIssuer}
use Rattle.rpki_path.specs.AskedLists.{IsAskedOf, IsFor, IsForBelow, by_named_lists}

module _ (names : Bool) (x : Context) (issuer : TbsFields) (c : CertFields) where
  -- the same lists are for the certificate
  abbrev pub AreSameFor : List CrlState → List CrlState → Type 0
  AreSameFor lists others = (l : CrlState) → IsFor c l → Contains lists l ↔ Contains others l

  turned : (lists others : List CrlState) → AreSameFor lists others → AreSameFor others lists
  turned lists others same l is = ((same l is).1, (same l is).0)

  is_for : (asks : Bool) (l : CrlState) → IsForBelow asks issuer c l → IsFor c l
  is_for false l h = h
  is_for true l h = h.0

  asked_there : (lists others : List CrlState) → AreSameFor lists others → (l : CrlState) →
      IsAskedOf names x lists issuer c l → IsAskedOf names x others issuer c l
  asked_there lists others same l (inl h) =
      inl (record {
        inside = (same l (is_for names l h.has.0)).0 h.inside;
        has = h.has;
        stays =
            λ other at p. h.stays other ((same other (is_for names other p.0)).1 at) p;
      })
  asked_there lists others same l (inr h) =
      inr (
        (λ other at p. h.0 other ((same other (is_for names other p.0)).1 at) p),
        (same l (is_for names l h.2)).0 h.1,
        h.2,
      )

  check_there : (lists others : List CrlState) → AreSameFor lists others → (e : RevocationError) →
      by_named_lists names x lists issuer c e → by_named_lists names x others issuer c e
  check_there lists others same NoCrl (inl h) = inl (h.0, asked_there lists others same h.0 h.1)
  check_there lists others same NoCrl (inr h) = let there = (same h.1 h.4.1).0 (h.0, h.2, h.3) in
      inr (there.0, h.1, there.1, there.2, h.4)
  check_there lists others same WrongKeyId h = λ l at. h l (asked_there others lists (turned lists others same) l at)
  check_there lists others same BadSignature h = λ l at. h l (asked_there others lists (turned lists others same) l at)
  check_there lists others same Stale h = (
    (λ l at. h.0 l (asked_there others lists (turned lists others same) l at)),
    (λ l at. h.1 l (asked_there others lists (turned lists others same) l at)),
  )
  check_there lists others same Revoked h = λ l at. h l (asked_there others lists (turned lists others same) l at)
  check_there lists others same WrongIssuer h = (h.0, asked_there lists others same h.0 h.1)

  -- the checks are the same
  pub same_checks : (lists others : List CrlState) → AreSameFor lists others → (e : RevocationError) →
      by_named_lists names x lists issuer c e ↔ by_named_lists names x others issuer c e
  same_checks lists others same e =
      (check_there lists others same e, check_there others lists (turned lists others same) e)
