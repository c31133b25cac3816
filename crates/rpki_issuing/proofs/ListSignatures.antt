-- What is put together of a list and a signature, and that nothing but the signature is in the way
-- where all its other checks are true.
use Rattle.std.specs.Prelude.{Bool}
use Rattle.std.proofs.Common.{◌≡◌, ◌⊎◌, ◌<◌, ◌≤◌, ◌^◌, ℕ, List, ◌++◌, length, refl, sym, subst, inl, inr, arith}
use Rattle.std.proofs.lemmas.List.{length-append}
use Rattle.rpki_der.specs.Times.{Moment}
use Rattle.rpki_der.specs.Tags.{SEQUENCE}
use Rattle.rpki_der.specs.Values.{AreOctets}
use Rattle.rpki_der.specs.declared.error.EncodeError.{EncodeError}
use Rattle.rpki_der.specs.declared.error.EncodeError.TheVariants as writing
use Rattle.rpki_der.proofs.ValueWritten.{enc_longer}
use Rattle.rpki_parts.specs.Algorithms.{algorithm}
use Rattle.rpki_parts.specs.Keys.{whole_bits_format}
use Rattle.rpki_parts.specs.Signatures.{Verifies}
use Rattle.rpki_parts.specs.SignedDatas.{signed_content, signed_content_format}
use Rattle.rpki_cert.specs.Certificates.{TbsFields}
use Rattle.rpki_cert.specs.Verification.{Context, context}
use Rattle.rpki_crl.specs.Lists.{CrlFields, ListFields, ListFits, IsMadeList, list_content, list_encoding, list_format}
use Rattle.rpki_crl.specs.RevokedEntries.{Revoked}
use Rattle.rpki_crl.specs.declared.revocation_error.RevocationError.{RevocationError}
use Rattle.rpki_crl.specs.declared.revocation_error.RevocationError.TheVariants as revocation
use Rattle.rpki_issuing.specs.ListReadiness.{list_signed_with, list_unsigned, IsTooLongList, IssuedListCheck}
use Rattle.rpki_issuing.specs.ListReadiness.{issued_list_checks, IsCurrentList, IsListFault, IsListSignatureFault}
use Rattle.rpki_issuing.specs.ListReadiness.{LeavesOthers, RevokesItsOwn, IsUnwrittenList, of_list_encoding}
use Rattle.rpki_issuing.specs.Readiness.{but_signature}
use Rattle.rpki_issuing.specs.declared.list_error.ListError.{ListError}
use Rattle.rpki_issuing.specs.declared.list_error.ListError.TheVariants.{Invalid, TooLong, Memory}
use Rattle.rpki_issuing.proofs.SignatureAlone.{first_is}

-- ---- what is put together

pub made_list : (f : ListFields Revoked) (octets : List ℕ) → ListFits f → AreOctets octets →
    length (signed_content (list_signed_with f octets).signed_data) < 2 ^ 32 →
    IsMadeList (list_signed_with f octets)
made_list f octets fits value short =
    record { message_is = refl; fields_are = fits; same_algorithm = refl; signature_is = value; short = short }

-- what isn't written is too long, or it ran out of memory
pub unwritten_list : (f : ListFields Revoked) (octets : List ℕ) (e : EncodeError) →
    (e ≡ writing.TooLong → IsTooLongList (list_signed_with f octets)) →
    IsUnwrittenList f octets (of_list_encoding e)
unwritten_list f octets writing.TooLong long = long refl
unwritten_list f octets writing.Memory long = tt

-- what is signed is part of the whole
pub long_list : (f : ListFields Revoked) (octets : List ℕ) → 2 ^ 32 ≤ length (list_content f) →
    IsTooLongList (list_signed_with f octets)
unfolding signed_content_format list_format
long_list f octets long =
    omega (
      arith,
      long,
      length-append (list_encoding f) (algorithm f.algorithm ++ whole_bits_format.written octets),
      enc_longer SEQUENCE (list_content f),
    )

-- ---- its checks

pub unwritten_fault : (x : Context) (issuer : TbsFields) (f : ListFields Revoked) (octets : List ℕ)
    (e : ListError) → IsUnwrittenList f octets e → IsListFault x issuer (list_signed_with f octets) e
unwritten_fault x issuer f octets (Invalid e) h = absurd h
unwritten_fault x issuer f octets TooLong h = h
unwritten_fault x issuer f octets Memory h = tt

module _ (V : Verifies) (now : Moment) (strict : Bool) (issuer : TbsFields) (f : ListFields Revoked)
    (value : List ℕ) where
  list_check_same : (e : RevocationError) →
      (e ≡ revocation.BadSignature) ⊎ (IssuedListCheck (but_signature now strict) issuer (list_unsigned f) e →
      IssuedListCheck (context V now strict) issuer (list_signed_with f value) e)
  list_check_same revocation.BadSignature = inl refl
  list_check_same _ = inr (λ h. h)

  -- what is ready fails by the signature alone
  pub list_signature_fault : (e : ListError) → IsCurrentList (but_signature now strict) issuer (list_unsigned f) →
      IsListFault (context V now strict) issuer (list_signed_with f value) e →
      IsListSignatureFault V issuer f value e
  list_signature_fault TooLong valid h = h
  list_signature_fault Memory valid h = tt
  list_signature_fault (Invalid e) valid first =
      let (same, bad) = first_is (IssuedListCheck (but_signature now strict) issuer (list_unsigned f))
      (IssuedListCheck (context V now strict) issuer (list_signed_with f value)) revocation.BadSignature
      list_check_same issued_list_checks e valid first in
      subst (λ (d : RevocationError). IsListSignatureFault V issuer f value (Invalid d)) (sym same) bad

-- what is current passes for each serial number that isn't on it
pub leaves_others : (x : Context) (issuer : TbsFields) (list : CrlFields) → IsCurrentList x issuer list →
    LeavesOthers x issuer list
leaves_others x issuer list (names, (signed, (current, _))) =
    λ serial off. (tt, (names, (signed, (current.1, (off, (tt, tt))))))

-- and revokes each that is
pub revokes_its_own : (x : Context) (issuer : TbsFields) (list : CrlFields) → IsCurrentList x issuer list →
    RevokesItsOwn x issuer list
revokes_its_own x issuer list (names, (signed, (current, _))) =
    λ serial on. inr (tt, inr (names, inr (signed, inr (current.1, inl (refl, λ off. off on)))))
