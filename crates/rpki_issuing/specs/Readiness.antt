-- Certificates of which only the signature is missing (RFC 6487 4, 7.2; RFC 5280 4.1.1.3).
use Rattle.std.specs.Prelude.{◌^◌, ◌<◌, ◌≤◌, ℕ, Bool, List, [], length}
use Rattle.rpki_der.specs.Times.{Moment}
use Rattle.rpki_parts.specs.Signatures.{Verifies}
use Rattle.rpki_parts.specs.SignedDatas.{signed_content}
use Rattle.rpki_cert.specs.Certificates.{TbsFields, CertFields, CanBeWritten, encoding}
use Rattle.rpki_cert.specs.Issuing.{made_with}
use Rattle.rpki_cert.specs.Verification.{Context, context}
use Rattle.rpki_cert.specs.declared.validation_error.ValidationError.TheVariants.{Verification}
use Rattle.rpki_cert.specs.declared.verification_error.VerificationError.TheVariants.{BadSignature}
use Rattle.rpki_issuing.specs.declared.issuing_error.IssuingError.{IssuingError}
use Rattle.rpki_issuing.specs.declared.issuing_error.IssuingError.TheVariants.{Unwritable, TooLong, Invalid, Memory}
use Rattle.rpki_issuing.specs.declared.role.Role.{Role}
use Rattle.rpki_issuing.specs.Roles.{signing_key, IsValidAs, IsInvalidAs}

-- what is made of the fields with these octets as signature, made by the algorithm that the fields
-- name
abbrev pub signed_with : TbsFields → List ℕ → CertFields
signed_with f value = made_with f (record { algorithm = f.algorithm; value = value })

-- as it stands before it is signed: its signature has no octets
abbrev pub unsigned_certificate : TbsFields → CertFields
unsigned_certificate f = signed_with f []

-- it has 2^32 octets or more
abbrev pub IsTooLong : CertFields → Type 0
IsTooLong c = 2 ^ 32 ≤ length (signed_content c.signed_data)

-- why nothing is put together of the fields and a signature; or memory was wanted
abbrev pub IsUnassembled : TbsFields → List ℕ → IssuingError → Type 0
IsUnassembled f value Unwritable = CanBeWritten f → ⊥
IsUnassembled f value TooLong = IsTooLong (signed_with f value)
IsUnassembled f value (Invalid e) = ⊥
IsUnassembled f value Memory = Unit {0}

-- each signature is taken for valid
abbrev pub any_signature : Verifies
any_signature key algorithm message signature = Unit {0}

-- under what all checks are judged but the signature's
abbrev pub but_signature : Moment → Bool → Context
but_signature now strict = context any_signature now strict

-- ---- before it is signed

-- only a signature is missing: the fields can be written, and what they are meets the profile of
-- its kind, and all of its checks but the signature's are true
pub record IsReady (now : Moment) (strict : Bool) (role : Role) (f : TbsFields) : Type 0 where
  pub fields_are : CanBeWritten f
  pub short : length (signed_content (unsigned_certificate f).signed_data) < 2 ^ 32
  pub valid : IsValidAs (but_signature now strict) role (unsigned_certificate f)

-- why it isn't; or memory was wanted
abbrev pub IsUnready : Moment → Bool → Role → TbsFields → IssuingError → Type 0
IsUnready now strict role f Unwritable = CanBeWritten f → ⊥
IsUnready now strict role f TooLong = IsTooLong (unsigned_certificate f)
IsUnready now strict role f (Invalid e) = IsInvalidAs (but_signature now strict) role (unsigned_certificate f)
    (Invalid e)
IsUnready now strict role f Memory = Unit {0}

-- ---- once it is signed

-- the signature belongs to the octets that were prepared, and to the key of who issues
abbrev pub IsSignatureOf : Verifies → Role → TbsFields → List ℕ → Type 0
IsSignatureOf V role f value = V (signing_key role f) f.algorithm (encoding f) value

-- why what is made with this signature isn't a certificate that is valid in this role; or memory
-- was wanted
abbrev pub IsIncomplete : Context → Role → TbsFields → List ℕ → IssuingError → Type 0
IsIncomplete x role f value Unwritable = ⊥
IsIncomplete x role f value TooLong = IsTooLong (signed_with f value)
IsIncomplete x role f value (Invalid e) = IsInvalidAs x role (signed_with f value) (Invalid e)
IsIncomplete x role f value Memory = Unit {0}

-- that the signature isn't one of these octets, or that it is too long with it; or memory was
-- wanted
abbrev pub IsSignatureFault : Verifies → Role → TbsFields → List ℕ → IssuingError → Type 0
IsSignatureFault V role f value (Invalid (Verification BadSignature)) = IsSignatureOf V role f value → ⊥
IsSignatureFault V role f value TooLong = IsTooLong (signed_with f value)
IsSignatureFault V role f value Memory = Unit {0}
IsSignatureFault V role f value _ = ⊥
