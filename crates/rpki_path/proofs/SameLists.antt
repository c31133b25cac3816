-- The same lists in another order answer alike.
use Rattle.std.specs.Prelude.{Bool, false}
use Rattle.std.proofs.Common.{◌↔◌, List, inl, inr}
use Rattle.rpki_cert.specs.Certificates.{TbsFields, CertFields}
use Rattle.rpki_cert.specs.Verification.{Context}
use Rattle.rpki_cert.proofs.Checks.{all_map}
use Rattle.rpki_crl.specs.Lists.{CrlState}
use Rattle.rpki_crl.specs.Revocation.{revocation_checks}
use Rattle.rpki_crl.specs.declared.revocation_error.RevocationError.{RevocationError}
use Rattle.rpki_crl.specs.declared.revocation_error.RevocationError.TheVariants.{NoCrl, WrongKeyId, BadSignature}
use Rattle.rpki_crl.specs.declared.revocation_error.RevocationError.TheVariants.{Stale, Revoked, WrongIssuer}
use Rattle.rpki_path.specs.Asking.{IsUnrevokedBy}
use Rattle.rpki_path.specs.AskedLists.{AreSameLists, IsAskedOf, by_lists, by_named_lists}

turned : (lists others : List CrlState) → AreSameLists lists others → AreSameLists others lists
turned lists others same l = ((same l).1, (same l).0)

module _ (names : Bool) (x : Context) (issuer : TbsFields) (c : CertFields) where
  asked_there : (lists others : List CrlState) → AreSameLists lists others → (l : CrlState) →
      IsAskedOf names x lists issuer c l → IsAskedOf names x others issuer c l
  asked_there lists others same l (inl h) =
      inl (record {
        inside = (same l).0 h.inside;
        has = h.has;
        stays =
            λ other at. h.stays other ((same other).1 at);
      })
  asked_there lists others same l (inr h) = inr ((λ other at. h.0 other ((same other).1 at)), (same l).0 h.1, h.2)

  check_there : (lists others : List CrlState) → AreSameLists lists others → (e : RevocationError) →
      by_named_lists names x lists issuer c e → by_named_lists names x others issuer c e
  check_there lists others same NoCrl (inl h) = inl (h.0, asked_there lists others same h.0 h.1)
  check_there lists others same NoCrl (inr h) = let there = (same h.1).0 (h.0, h.2, h.3) in
      inr (there.0, h.1, there.1, there.2, h.4)
  check_there lists others same WrongKeyId h = λ l at. h l (asked_there others lists (turned lists others same) l at)
  check_there lists others same BadSignature h = λ l at. h l (asked_there others lists (turned lists others same) l at)
  check_there lists others same Stale h = (
    (λ l at. h.0 l (asked_there others lists (turned lists others same) l at)),
    (λ l at. h.1 l (asked_there others lists (turned lists others same) l at)),
  )
  check_there lists others same Revoked h = λ l at. h l (asked_there others lists (turned lists others same) l at)
  check_there lists others same WrongIssuer h = (h.0, asked_there lists others same h.0 h.1)

  pub checks_there : (lists others : List CrlState) → AreSameLists lists others → (e : RevocationError) →
      by_named_lists names x lists issuer c e ↔ by_named_lists names x others issuer c e
  checks_there lists others same e =
      (check_there lists others same e, check_there others lists (turned lists others same) e)

  pub named_there : (lists others : List CrlState) → AreSameLists lists others →
      IsUnrevokedBy (by_named_lists names x lists) issuer c →
      IsUnrevokedBy (by_named_lists names x others) issuer c
  named_there lists others same = all_map (by_named_lists names x lists issuer c)
      (by_named_lists names x others issuer c) revocation_checks (check_there lists others same)

  pub unrevoked_alike : (lists others : List CrlState) → AreSameLists lists others →
      IsUnrevokedBy (by_named_lists names x lists) issuer c ↔ IsUnrevokedBy (by_named_lists names x others) issuer
      c
  unrevoked_alike lists others same =
      (named_there lists others same, named_there others lists (turned lists others same))

-- without names
pub unrevoked_there : (x : Context) (issuer : TbsFields) (c : CertFields) (lists others : List CrlState) →
    AreSameLists lists others → IsUnrevokedBy (by_lists x lists) issuer c →
    IsUnrevokedBy (by_lists x others) issuer c
unrevoked_there x issuer c lists others same h = named_there false x issuer c lists others same h
