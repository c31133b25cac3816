-- Whether the list of an issuer revokes a certificate, check by check (RFC 6487 7.2, RFC 5280
-- 6.3.3; own: the order of the checks, that the earliest list under a URI is asked, and that the
-- issuer's name of a list under a URI isn't compared, as 6.3.3 (b) (1) asks).
use Rattle.std.specs.Prelude.{◌≡◌, ℕ, List, [], ◌∷◌, Some, codes}
use Rattle.rpki_parts.specs.ValidAt.{IsNotAfter}
use Rattle.rpki_cert.specs.Certificates.{TbsFields, CertFields}
use Rattle.rpki_cert.specs.Verification.{Context, IsSignedBy, IsVerified}
use Rattle.rpki_crl.specs.Lists.{CrlFields, CrlState}
use Rattle.rpki_crl.specs.RevokedEntries.{IsRevoked}
use Rattle.rpki_crl.specs.Stores.{Stored, IsEarliest}
use Rattle.rpki_crl.specs.declared.revocation_error.RevocationError.{RevocationError}
use Rattle.rpki_crl.specs.declared.revocation_error.RevocationError.TheVariants.{NoCrl, WrongKeyId, BadSignature}
use Rattle.rpki_crl.specs.declared.revocation_error.RevocationError.TheVariants.{Stale, Revoked, WrongIssuer}

-- the list names the issuer's key as the one that signs it (RFC 5280 5.2.1)
abbrev pub NamesIssuer : TbsFields → CrlFields → Type 0
NamesIssuer issuer list = list.fields.extensions.authority_key_identifier ≡ issuer.extensions.subject_key_identifier

-- The check is true of this list, where a certificate with the serial number is asked for, in this
-- context and below the issuer. A check is named by the error that it gives where it isn't true.
abbrev pub ListCheck : Context → TbsFields → ℕ → CrlFields → RevocationError → Type 0
ListCheck x issuer serial list NoCrl = Unit {0}
ListCheck x issuer serial list WrongKeyId = NamesIssuer issuer list
ListCheck x issuer serial list BadSignature = IsSignedBy x.verifies issuer.key list.signed_data
ListCheck x issuer serial list Stale = IsNotAfter x.now list.fields.next_update
ListCheck x issuer serial list Revoked = IsRevoked serial list.fields.revoked.entries → ⊥
ListCheck x issuer serial list WrongIssuer = Unit {0}

-- the check is true where the list to be asked is one of these: there is one, and it has the check
abbrev pub RevocationCheck : Context → TbsFields → ℕ → (CrlState → Type 0) → RevocationError → Type 0
RevocationCheck x issuer serial IsAsked NoCrl = (crl : CrlState) × IsAsked crl
RevocationCheck x issuer serial IsAsked e = (crl : CrlState) → IsAsked crl → ListCheck x issuer serial crl.list e

-- in the order in which they are tested
abbrev pub revocation_checks : List RevocationError
revocation_checks = NoCrl ∷ WrongKeyId ∷ BadSignature ∷ Stale ∷ Revoked ∷ WrongIssuer ∷ []

-- the list that is stored first under the URI
abbrev pub IsUnderUri : List Stored → List ℕ → CrlState → Type 0
IsUnderUri pairs uri crl = IsEarliest uri pairs (Some crl)

-- the list is the earliest one under the URI that the certificate names
abbrev pub IsListOf : List Stored → CertFields → CrlState → Type 0
IsListOf pairs c crl = (uri : List ℕ) × (c.fields.extensions.crl_uri ≡ Some uri) × IsUnderUri pairs uri crl

-- the checks of a certificate, with the lists of this store
abbrev pub CertRevocationCheck : Context → List Stored → TbsFields → CertFields → RevocationError → Type 0
CertRevocationCheck x pairs issuer c = RevocationCheck x issuer c.fields.serial (IsListOf pairs c)

-- the certificate below the issuer isn't revoked: all of its checks are true
abbrev pub IsUnrevoked : Context → List Stored → TbsFields → CertFields → Type 0
IsUnrevoked x pairs issuer c = IsVerified (CertRevocationCheck x pairs issuer c) revocation_checks

-- ---- names

-- the name of the error
abbrev pub revocation_error_name : RevocationError → List ℕ
revocation_error_name NoCrl = codes "NoCrl"
revocation_error_name WrongKeyId = codes "WrongKeyId"
revocation_error_name BadSignature = codes "BadSignature"
revocation_error_name Stale = codes "Stale"
revocation_error_name Revoked = codes "Revoked"
revocation_error_name WrongIssuer = codes "WrongIssuer"
