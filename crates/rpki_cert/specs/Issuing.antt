-- A certification authority issues a certificate: it is made, captured, read again and validated
-- (RFC 6487 4).
use Rattle.std.specs.Prelude.{◌≡◌, ℕ, codes, ◌^◌, ◌≤◌, ◌<◌, List, length, Result, Ok}
use Rattle.rpki_der.specs.Place.{Rejects}
use Rattle.rpki_der.specs.declared.error.DecodeError.TheVariants as reading
use Rattle.rpki_der.specs.declared.error.EncodeError.TheVariants as writing
use Rattle.rpki_parts.specs.Signatures.{SignatureFields}
use Rattle.rpki_parts.specs.SignedDatas.{SignedFields, signed_content, signed_data}
use Rattle.rpki_parts.specs.Signing.{IsRefusal}
use Rattle.rpki_parts.specs.declared.signature.SigningError.{SigningError}
use Rattle.rpki_parts.specs.declared.signature.SigningError.TheVariants as signing
use Rattle.rpki_ext.specs.Kinds.{Means}
use Rattle.rpki_cert.specs.Certificates.{TbsFields, CertFields, IsCertificate, tbs_content, encoding}
use Rattle.rpki_cert.specs.declared.issue.IssueCaError.{IssueCaError}
use Rattle.rpki_cert.specs.declared.issue.IssueCaError.TheVariants.{Signing, Encode, Decode, Validation}
use Rattle.rpki_cert.specs.declared.validation_error.ValidationError.{ValidationError}
use Rattle.rpki_cert.specs.declared.validation_error.ValidationError.TheVariants.{Verification}
use Rattle.rpki_cert.specs.declared.verification_error.VerificationError.TheVariants as verifying

-- the signed data is made of the fields, with a signer that may give these answers, and isn't too
-- long
pub record IsMadeOf {E : Type 0} (f : TbsFields) (MayAnswer : Result SignatureFields (SigningError E) → Type 0)
    (s : SignedFields) : Type 0 where
  pub message_is : s.message ≡ encoding f
  pub signed : MayAnswer (Ok s.signature)
  pub short : length (signed_content s) < 2 ^ 32

-- no certificate begins its octets
abbrev pub IsUnreadable : SignedFields → Type 0
IsUnreadable s = (c : CertFields) → Means IsCertificate c (signed_data s) → ⊥

-- Why no certificate is read again of what is made of the fields, with a signer that may give these
-- answers: nothing is made; it ran out of memory; or something is made whose octets no certificate
-- begins.
abbrev pub IsNotMade : {E : Type 0} → TbsFields → (Result SignatureFields (SigningError E) → Type 0) → IssueCaError E → Type 0
IsNotMade f MayAnswer (Signing e) = IsRefusal (tbs_content f) MayAnswer e
IsNotMade f MayAnswer (Encode writing.TooLong) = ⊥
IsNotMade f MayAnswer (Encode writing.Memory) = Unit {0}
IsNotMade f MayAnswer (Decode e) = Rejects e ((s : SignedFields) × IsMadeOf f MayAnswer s × IsUnreadable s)
IsNotMade f MayAnswer (Validation e) = ⊥

-- a certificate that was read again, from its own octets, of what was made of the fields, with a
-- signer that may give these answers
pub record IsReadOf {E : Type 0} (f : TbsFields) (MayAnswer : Result SignatureFields (SigningError E) → Type 0)
    (c : CertFields) : Type 0 where
  pub read : IsCertificate c (signed_data c.signed_data)
  pub message_is : c.signed_data.message ≡ encoding f
  pub fields_are : c.fields ≡ f
  pub signed : MayAnswer (Ok c.signed_data.signature)

-- Why none is issued: nothing is read again, or what is read again isn't valid.
abbrev pub IsNotIssued : {E : Type 0} → TbsFields → (Result SignatureFields (SigningError E) → Type 0)
    → (CertFields → ValidationError → Type 0) → IssueCaError E → Type 0
IsNotIssued f MayAnswer Invalid (Signing e) = IsNotMade f MayAnswer (Signing e)
IsNotIssued f MayAnswer Invalid (Encode e) = IsNotMade f MayAnswer (Encode e)
IsNotIssued f MayAnswer Invalid (Decode e) = IsNotMade f MayAnswer (Decode e)
IsNotIssued f MayAnswer Invalid (Validation e) = (c : CertFields) × IsReadOf f MayAnswer c × Invalid c e

-- it is not that what was made can't be read again
abbrev pub IsNoReadingFault : {E : Type 0} → IssueCaError E → Type 0
IsNoReadingFault (Signing e) = Unit {0}
IsNoReadingFault (Validation e) = Unit {0}
IsNoReadingFault (Encode writing.Memory) = Unit {0}
IsNoReadingFault (Decode reading.Memory) = Unit {0}
IsNoReadingFault _ = ⊥

-- why signed data that was made already is not read again as a certificate
abbrev pub IsNotReadAgain : {E : Type 0} → SignedFields → IssueCaError E → Type 0
IsNotReadAgain s (Signing e) = ⊥
IsNotReadAgain s (Encode writing.TooLong) = 2 ^ 32 ≤ length (signed_content s)
IsNotReadAgain s (Encode writing.Memory) = Unit {0}
IsNotReadAgain s (Decode e) = Rejects e (IsUnreadable s)
IsNotReadAgain s (Validation e) = ⊥

-- what is made of the fields with this signature
abbrev pub made_with : TbsFields → SignatureFields → CertFields
made_with f s = record { fields = f; signed_data = record { message = encoding f; signature = s } }

-- memory was wanted, in whichever of the steps
abbrev pub IsMemory : {E : Type 0} → IssueCaError E → Type 0
IsMemory (Signing signing.Memory) = Unit {0}
IsMemory (Encode writing.Memory) = Unit {0}
IsMemory (Decode reading.Memory) = Unit {0}
IsMemory (Validation (Verification verifying.Memory)) = Unit {0}
IsMemory _ = ⊥

-- ---- names

abbrev pub issue_ca_error_name : {E : Type 0} → IssueCaError E → List ℕ
issue_ca_error_name (Signing e) = codes "Signing"
issue_ca_error_name (Encode e) = codes "Encode"
issue_ca_error_name (Decode e) = codes "Decode"
issue_ca_error_name (Validation e) = codes "Validation"
