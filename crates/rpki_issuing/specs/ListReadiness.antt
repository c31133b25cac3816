-- Revocation lists of which only the signature is missing (RFC 6487 5, RFC 5280 5.1.1.3).
use Rattle.std.specs.Prelude.{◌^◌, ◌≤◌, ℕ, Bool, List, [], ◌∷◌, length, codes}
use Rattle.rpki_der.specs.Times.{Moment}
use Rattle.rpki_der.specs.declared.error.EncodeError.{EncodeError}
use Rattle.rpki_der.specs.declared.error.EncodeError.TheVariants as writing
use Rattle.rpki_parts.specs.Conditions.{IsFirstFalse}
use Rattle.rpki_parts.specs.Signatures.{Verifies}
use Rattle.rpki_parts.specs.SignedDatas.{signed_content}
use Rattle.rpki_parts.specs.ValidAt.{IsNotAfter}
use Rattle.rpki_cert.specs.Certificates.{TbsFields}
use Rattle.rpki_cert.specs.Verification.{Context, IsSignedBy, IsVerified}
use Rattle.rpki_crl.specs.Lists.{CrlFields, ListFields, ListFits, list_encoding}
use Rattle.rpki_crl.specs.Revocation.{NamesIssuer, ListCheck, revocation_checks}
use Rattle.rpki_crl.specs.RevokedEntries.{Revoked, IsRevoked}
use Rattle.rpki_crl.specs.declared.revocation_error.RevocationError.{RevocationError}
use Rattle.rpki_crl.specs.declared.revocation_error.RevocationError.TheVariants as revocation
use Rattle.rpki_path.specs.AskedLists.{HasBegun}
use Rattle.rpki_issuing.specs.Readiness.{but_signature}
use Rattle.rpki_issuing.specs.declared.list_error.ListError.{ListError}
use Rattle.rpki_issuing.specs.declared.list_error.ListError.TheVariants.{Invalid, TooLong, Memory}

-- what is made of the fields with these octets as signature, made by the algorithm that the fields
-- name
abbrev pub list_signed_with : ListFields Revoked → List ℕ → CrlFields
list_signed_with f value =
    record {
      fields = f;
      signed_data =
          record { message = list_encoding f; signature = record { algorithm = f.algorithm; value = value } };
    }

-- as it stands before it is signed: its signature has no octets
abbrev pub list_unsigned : ListFields Revoked → CrlFields
list_unsigned f = list_signed_with f []

-- it has 2^32 octets or more
abbrev pub IsTooLongList : CrlFields → Type 0
IsTooLongList list = 2 ^ 32 ≤ length (signed_content list.signed_data)

-- why nothing is put together of the fields and a signature; or memory was wanted
abbrev pub IsUnwrittenList : ListFields Revoked → List ℕ → ListError → Type 0
IsUnwrittenList f value (Invalid e) = ⊥
IsUnwrittenList f value TooLong = IsTooLongList (list_signed_with f value)
IsUnwrittenList f value Memory = Unit {0}

-- the check is true of the list, whatever serial number is asked for; its time has begun (RFC 5280
-- 5.1.2.4), and isn't over
abbrev pub IssuedListCheck : Context → TbsFields → CrlFields → RevocationError → Type 0
IssuedListCheck x issuer list revocation.WrongKeyId = NamesIssuer issuer list
IssuedListCheck x issuer list revocation.BadSignature = IsSignedBy x.verifies issuer.key list.signed_data
IssuedListCheck x issuer list revocation.Stale =
    HasBegun x.now list × IsNotAfter x.now list.fields.next_update
IssuedListCheck x issuer list _ = Unit {0}

-- in the order in which they are tested
abbrev pub issued_list_checks : List RevocationError
issued_list_checks = revocation.WrongKeyId ∷ revocation.BadSignature ∷ revocation.Stale ∷ []

-- all of them are true
abbrev pub IsCurrentList : Context → TbsFields → CrlFields → Type 0
IsCurrentList x issuer list = IsVerified (IssuedListCheck x issuer list) issued_list_checks

-- ---- before it is signed

-- only a signature is missing: the fields can be written, and all checks but the signature's are
-- true
pub record IsListReady (now : Moment) (strict : Bool) (issuer : TbsFields) (f : ListFields Revoked) : Type 0 where
  pub fields_are : ListFits f
  pub checks : IsCurrentList (but_signature now strict) issuer (list_unsigned f)

-- why the list isn't there: its first check that isn't true; it would be too long; or memory was
-- wanted
abbrev pub IsListFault : Context → TbsFields → CrlFields → ListError → Type 0
IsListFault x issuer list (Invalid e) = IsFirstFalse (IssuedListCheck x issuer list) issued_list_checks e
IsListFault x issuer list TooLong = IsTooLongList list
IsListFault x issuer list Memory = Unit {0}

-- ---- once it is signed

-- the signature belongs to the octets that were prepared, and to the issuer's key
abbrev pub IsListSignature : Verifies → TbsFields → ListFields Revoked → List ℕ → Type 0
IsListSignature V issuer f value = V issuer.key f.algorithm (list_encoding f) value

-- that the signature isn't one of these octets, or that it is too long with it; or memory was
-- wanted
abbrev pub IsListSignatureFault : Verifies → TbsFields → ListFields Revoked → List ℕ → ListError → Type 0
IsListSignatureFault V issuer f value (Invalid revocation.BadSignature) = IsListSignature V issuer f value → ⊥
IsListSignatureFault V issuer f value (Invalid _) = ⊥
IsListSignatureFault V issuer f value TooLong = IsTooLongList (list_signed_with f value)
IsListSignatureFault V issuer f value Memory = Unit {0}

-- each certificate of the issuer whose serial number isn't on the list passes each check of the
-- list
abbrev pub LeavesOthers : Context → TbsFields → CrlFields → Type 0
LeavesOthers x issuer list = (serial : ℕ) → (IsRevoked serial list.fields.revoked.entries → ⊥) →
    IsVerified (ListCheck x issuer serial list) revocation_checks

-- a certificate of the issuer whose serial number is on the list fails as revoked
abbrev pub RevokesItsOwn : Context → TbsFields → CrlFields → Type 0
RevokesItsOwn x issuer list = (serial : ℕ) → IsRevoked serial list.fields.revoked.entries →
    IsFirstFalse (ListCheck x issuer serial list) revocation_checks revocation.Revoked

-- ---- names

-- the name of the error
abbrev pub list_error_name : ListError → List ℕ
list_error_name (Invalid e) = codes "Invalid"
list_error_name TooLong = codes "TooLong"
list_error_name Memory = codes "Memory"

-- what a writer refused
abbrev pub of_list_encoding : EncodeError → ListError
of_list_encoding writing.TooLong = TooLong
of_list_encoding writing.Memory = Memory
