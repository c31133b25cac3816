-- Where nothing but memory is in the way, nothing but memory keeps a certificate from being issued.
use Rattle.std.specs.Prelude.{Result, Ok, Err, IfErr}
use Rattle.std.proofs.Common.{◌≡◌, ◌<◌, ◌^◌, ℕ, List, length, sym, ap, subst, ◌∙◌, inl, inr, arith}
use Rattle.rpki_der.specs.declared.error.DecodeError.{DecodeError}
use Rattle.rpki_der.specs.declared.error.DecodeError.TheVariants as reading
use Rattle.rpki_der.specs.declared.error.EncodeError.TheVariants as writing
use Rattle.rpki_parts.specs.Signatures.{SignatureFields}
use Rattle.rpki_parts.specs.SignedDatas.{signed_content}
use Rattle.rpki_parts.specs.Signing.{IsRefusal}
use Rattle.rpki_parts.specs.declared.signature.SigningError.{SigningError}
use Rattle.rpki_parts.specs.declared.signature.SigningError.TheVariants as signing
use Rattle.rpki_cert.specs.Certificates.{TbsFields, CertFields, CanBeWritten, tbs_content}
use Rattle.rpki_cert.specs.Issuing.{IsReadOf, IsNotIssued, IsNoReadingFault, IsMemory, made_with}
use Rattle.rpki_cert.specs.Profiles.{MeetsProfile, Lacks, faults}
use Rattle.rpki_cert.specs.Validation.{IsInvalidBelow}
use Rattle.rpki_cert.specs.Verification.{Context, CheckUnder, ResourceFields, IsVerified, issued_checks}
use Rattle.rpki_cert.specs.declared.inspect.Kind.{Kind}
use Rattle.rpki_cert.specs.declared.issue.IssueCaError.{IssueCaError}
use Rattle.rpki_cert.specs.declared.issue.IssueCaError.TheVariants.{Signing, Encode, Decode, Validation}
use Rattle.rpki_cert.specs.declared.validation_error.ValidationError.{ValidationError}
use Rattle.rpki_cert.specs.declared.validation_error.ValidationError.TheVariants.{Inspection, Verification}
use Rattle.rpki_cert.specs.declared.verification_error.VerificationError.{VerificationError}
use Rattle.rpki_cert.proofs.Checks.{first_not_all}

module _ {E : Type 0} (f : TbsFields) (MayAnswer : Result SignatureFields (SigningError E) → Type 0) where
  -- ---- it is signed

  module _ (short : length (tbs_content f) < 2 ^ 32) (signs : (e : SigningError E) → MayAnswer (Err e) →
      e ≡ signing.Memory) (fits : (s : SignatureFields) → MayAnswer (Ok s) →
      length (signed_content (made_with f s).signed_data) < 2 ^ 32) where
    signed : (e : SigningError E) → IsRefusal (tbs_content f) MayAnswer e → IsMemory {E = E} (Signing e)
    signed signing.Memory h = tt
    signed signing.TooLong (inl long) = omega arith
    signed signing.TooLong (inr (inl rejected)) = absurd (cc (signs signing.TooLong rejected))
    signed signing.TooLong (inr (inr (s, may, long))) = let fit = fits s may in omega arith
    signed (signing.Signer e) (inl h) = absurd h
    signed (signing.Signer e) (inr (inl rejected)) = absurd (cc (signs (signing.Signer e) rejected))
    signed (signing.Signer e) (inr (inr (s, may, h))) = absurd h

  -- ---- it is valid

  made_is : (c : CertFields) → IsReadOf f MayAnswer c → c ≡ made_with f c.signed_data.signature
  made_is c is =
      let first : c ≡ record { fields = f; signed_data = c.signed_data } =
      ap (λ (g : TbsFields). let d : CertFields = record { fields = g; signed_data = c.signed_data } in d)
      is.fields_are in
      first ∙ ap (λ (m : List ℕ). let d : CertFields =
      record { fields = f; signed_data = record { message = m; signature = c.signed_data.signature } } in
      d) is.message_is

  module _ (can : CanBeWritten f) where
    module _ (x : Context) (issuer : ResourceFields) (kind : Kind) where
      abbrev pub Valid : CertFields → Type 0
      Valid c = MeetsProfile kind x.strict c × IsVerified (CheckUnder x issuer c) issued_checks

      module _ (all_valid : (s : SignatureFields) → MayAnswer (Ok s) → Valid (made_with f s)) where
        valid : (c : CertFields) → IsReadOf f MayAnswer c → Valid c
        valid c is = subst Valid (sym (made_is c is)) (all_valid c.signed_data.signature is.signed)

        validated : (e : ValidationError) (c : CertFields) → IsReadOf f MayAnswer c →
            IsInvalidBelow x issuer kind c e → IsMemory {E = E} (Validation e)
        validated (Inspection e) c is h = absurd (first_not_all (Lacks kind x.strict c) (faults kind) e h (valid c is).0)
        validated (Verification e) c is (meets, inl same) =
            subst (λ (d : VerificationError). IsMemory {E = E} (Validation (Verification d))) (sym same) tt
        validated (Verification e) c is (meets, inr first) =
            absurd (first_not_all (CheckUnder x issuer c) issued_checks e first (valid c is).1)

        read : (e : DecodeError) → IsNoReadingFault {E = E} (Decode e) → IsMemory {E = E} (Decode e)
        read reading.Memory h = tt
        read _ h = absurd h

        module _ (signs : (e : SigningError E) → MayAnswer (Err e) → e ≡ signing.Memory)
            (fits : (s : SignatureFields) → MayAnswer (Ok s) →
            length (signed_content (made_with f s).signed_data) < 2 ^ 32) where
          memory_alone : (e : IssueCaError E) → IsNotIssued f MayAnswer (IsInvalidBelow x issuer kind) e → IsNoReadingFault e → IsMemory e
          memory_alone (Signing e) h r = signed can.fits.short signs fits e h
          memory_alone (Encode writing.TooLong) h r = absurd r
          memory_alone (Encode writing.Memory) h r = tt
          memory_alone (Decode e) h r = read e r
          memory_alone (Validation e) (c, is, invalid) r = validated e c is invalid

          pub issued_or_memory : {T : Type 0} (r : Result T (IssueCaError E)) →
              IfErr r (IsNotIssued f MayAnswer (IsInvalidBelow x issuer kind)) → IfErr r IsNoReadingFault →
              IfErr r IsMemory
          issued_or_memory (Ok v) h k = tt
          issued_or_memory (Err e) h k = memory_alone e h k
