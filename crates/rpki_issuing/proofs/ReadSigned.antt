-- What is put together of octets and a signature, and read again.
use Rattle.std.specs.Prelude.{Ok}
use Rattle.std.proofs.Common.{◌≡◌, ◌<◌, ◌≤◌, ◌^◌, ℕ, List, ◌++◌, length, refl, sym, subst, arith}
use Rattle.std.proofs.lemmas.List.{length-append}
use Rattle.rpki_der.specs.Encoding.{Means}
use Rattle.rpki_der.specs.Place.{Rejects}
use Rattle.rpki_der.specs.Tags.{SEQUENCE}
use Rattle.rpki_der.specs.Values.{AreOctets}
use Rattle.rpki_der.specs.declared.error.DecodeError.{DecodeError}
use Rattle.rpki_der.specs.declared.error.DecodeError.TheVariants as reading
use Rattle.rpki_der.specs.declared.error.EncodeError.{EncodeError}
use Rattle.rpki_der.specs.declared.error.EncodeError.TheVariants as writing
use Rattle.rpki_der.proofs.ValueWritten.{enc_longer}
use Rattle.rpki_parts.specs.Algorithms.{algorithm}
use Rattle.rpki_parts.specs.Keys.{whole_bits_format}
use Rattle.rpki_parts.specs.SignedDatas.{signed_content, signed_content_format, signed_data}
use Rattle.rpki_cert.specs.Certificates.{TbsFields, CertFields, CanBeWritten, Fits, IsCertificate, IsMade, encoding}
use Rattle.rpki_cert.specs.Certificates.{tbs_content}
use Rattle.rpki_cert.specs.Issuing.{IsUnreadable}
use Rattle.rpki_cert.proofs.CertificateFormats.{certificate_is}
use Rattle.rpki_cert.proofs.ReadAgain.{message_again, certificate_again, fields_again, readable}
use Rattle.rpki_issuing.specs.IssuingErrors.{of_encoding, error_of_decoding}
use Rattle.rpki_issuing.specs.Readiness.{signed_with, IsTooLong, IsUnassembled}

-- what begins octets is a certificate whose own octets are read
pub own_octets : (c : CertFields) (octets : List ℕ) → Means IsCertificate c octets →
    IsCertificate c (signed_data c.signed_data)
own_octets c octets means = subst (λ (o : List ℕ). IsCertificate c o)
    (certificate_is c means.1.text means.1.encoded) means.1.encoded

-- the fields and a signature, in whatever algorithm
module _ (f : TbsFields) (octets : List ℕ) (value : AreOctets octets) where
  abbrev c : CertFields
  c = signed_with f octets

  module _ (short : length (signed_content c.signed_data) < 2 ^ 32) where
    made : CanBeWritten f → IsMade c
    made can = record { message_is = refl; fields_are = can; signature_is = value; short = short }

    -- what is read of fields that fit is the certificate of these fields, which can be written
    pub read_signed : (d : CertFields) → Fits f → AreOctets (signed_data c.signed_data) →
        Means IsCertificate d (signed_data c.signed_data) → IsMade d × (d ≡ c)
    read_signed d fits all means =
        let message = message_again c.signed_data f d refl all short means in
        let (can, _) = fields_again {E = Unit {0}} (Ok d) f fits (own_octets d (signed_data c.signed_data) means)
        message in
        let same = certificate_again c d (made can) means in
        (subst (λ (e : CertFields). IsMade e) (sym same) (made can), same)

    -- where nothing is read, it ran out of memory, or the fields can't be written
    pub unread : (e : DecodeError) → Rejects e (IsUnreadable c.signed_data) →
        IsUnassembled f octets (error_of_decoding e)
    unread reading.Memory h = tt
    unread _ h = λ can. readable c (made can) h

-- what isn't written is too long, or it ran out of memory
pub unwritten : (f : TbsFields) (octets : List ℕ) (e : EncodeError) →
    (e ≡ writing.TooLong → IsTooLong (signed_with f octets)) → IsUnassembled f octets (of_encoding e)
unwritten f octets writing.TooLong long = long refl
unwritten f octets writing.Memory long = tt

-- what is signed is part of the whole
pub long_content : (f : TbsFields) (octets : List ℕ) → 2 ^ 32 ≤ length (tbs_content f) →
    IsTooLong (signed_with f octets)
unfolding signed_content_format
long_content f octets long =
    omega (
      arith,
      long,
      length-append (encoding f) (algorithm f.algorithm ++ whole_bits_format.written octets),
      enc_longer SEQUENCE (tbs_content f),
    )
