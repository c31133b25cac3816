-- A certificate that was made is read again from its own octets.
use Rattle.std.specs.Prelude.{Result, Ok, Err, IfOk, IfErr}
use Rattle.std.proofs.Common.{◌≤◌, arith, ℕ, List, [], ◌++◌, ◌≡◌, ◌<◌, ◌^◌, length, refl, sym, ap, ◌∙◌, subst}
use Rattle.std.proofs.lemmas.List.{append-nil, length-append}
use Rattle.rpki_der.specs.Values.{AreOctets, IsEnc, IsValue, enc, length_octets}
use Rattle.rpki_der.specs.Values.Reading.{value_at}
use Rattle.rpki_der.specs.Place.{Rejects}
use Rattle.rpki_der.specs.declared.error.DecodeError.{DecodeError}
use Rattle.rpki_der.specs.declared.error.DecodeError.TheVariants as reading
use Rattle.rpki_der.specs.declared.error.EncodeError.{EncodeError}
use Rattle.rpki_der.specs.declared.error.EncodeError.TheVariants as writing
use Rattle.rpki_parts.specs.Signatures.{SignatureFields}
use Rattle.rpki_parts.specs.declared.signature.SigningError.{SigningError}
use Rattle.rpki_der.specs.Skipping.{levels}
use Rattle.rpki_der.proofs.FormatLaws.{one_meaning}
use Rattle.rpki_der.proofs.Formats.{one_meant}
use Rattle.rpki_der.proofs.Octets.{AreOctets-parts}
use Rattle.rpki_der.proofs.Readings.{one_reading}
use Rattle.rpki_der.proofs.ValueReads.{value_reads}
use Rattle.rpki_der.proofs.ValueWritten.{Short, content_short}
use Rattle.rpki_der.proofs.Values.{one_value}
use Rattle.rpki_parts.specs.Algorithms.{algorithm}
use Rattle.rpki_parts.specs.Keys.{whole_bits_format}
use Rattle.rpki_parts.specs.SignedDatas.{SignedFields, signed_content, signed_content_format, signed_data}
use Rattle.rpki_der.specs.Encoding.{Means}
use Rattle.rpki_der.specs.Tags.{SEQUENCE}
use Rattle.rpki_der.proofs.Answering.{whole_means}
use Rattle.rpki_cert.specs.Certificates.{TbsFields, CertFields, CanBeWritten, Fits, IsTbsCertificate, IsCertificate}
use Rattle.rpki_cert.specs.Certificates.{IsMade, certificate_content_format, certificate_format, encoding}
use Rattle.rpki_cert.specs.Certificates.{tbs_content}
use Rattle.rpki_cert.specs.Issuing.{IsMadeOf, IsUnreadable, IsNotMade, IsNoReadingFault, IsNotReadAgain}
use Rattle.rpki_cert.specs.declared.issue.IssueCaError.{IssueCaError}
use Rattle.rpki_cert.specs.declared.issue.IssueCaError.TheVariants.{Signing, Encode, Decode, Validation}
use Rattle.rpki_cert.proofs.CertificateFormats.{certificate_lawful, certificate_made}
use Rattle.rpki_cert.proofs.CertificateParts.{certificate_parts}
use Rattle.rpki_cert.proofs.DataRead.{can_be_written, fields_same}

content_octets : (c : List ℕ) → AreOctets (enc SEQUENCE c) → AreOctets c
unfolding enc
content_octets c h = (AreOctets-parts (length_octets (length c)) c h.1).1

-- whatever is read of what was made has its message
pub message_again : (s : SignedFields) (f : TbsFields) (c : CertFields) → s.message ≡ encoding f →
    AreOctets (signed_data s) → length (signed_content s) < 2 ^ 32
    → Means IsCertificate c (signed_data s) → c.signed_data.message ≡ encoding f
unfolding signed_content_format
message_again s f c is octets short (rest, begins) =
    let cert = certificate_parts levels c begins.text begins.encoded in
    let low = content_octets (signed_content s) octets in
    let whole : IsEnc SEQUENCE (signed_content s) (signed_data s) =
    record { octet = omega arith; low_tag = omega arith; octets = low; short = short; is = refl } in
    let one = one_reading (value_at SEQUENCE) (IsEnc SEQUENCE) (value_reads SEQUENCE) (signed_data s)
    (signed_content s) cert.content [] rest
    (record { text = signed_data s; encoded = whole; parts = sym (append-nil (signed_data s)) })
    (record { text = begins.text; encoded = cert.enc; parts = begins.parts }) in
    let behind = algorithm s.signature.algorithm ++ whole_bits_format.written s.signature.value in
    let inner : Short (tbs_content f) =
    content_short SEQUENCE (tbs_content f)
    (subst Short is
    (omega (arith, short, length-append s.message behind), (AreOctets-parts s.message behind low).0)) in
    let mine : IsValue s.message =
    record {
      tag = SEQUENCE;
      content = tbs_content f;
      enc =
          record { octet = omega arith; low_tag = omega arith; octets = inner.1; short = inner.0; is = is };
    } in
    sym (one_value s.message c.signed_data.message behind (cert.signed.algorithm ++ cert.signed.signature) mine
    cert.signed.message_is (one.0 ∙ cert.signed.is)).0 ∙ is

-- what was made of fields that can be written is read as it was made
pub certificate_again : (c d : CertFields) → IsMade c → Means IsCertificate d (signed_data c.signed_data) → d ≡ c
certificate_again c d made h =
    let can = made.fields_are in
    let own = certificate_made c can.fits made.message_is made.signature_is made.short can.resources can.only_v4 in
    one_meant IsCertificate (one_meaning (certificate_format levels) refl certificate_lawful) d c
    (signed_data c.signed_data) h (whole_means IsCertificate c (signed_data c.signed_data) own)

-- a certificate that was made of fields that can be written
pub made_of : (f : TbsFields) (c : CertFields) → c.fields ≡ f → c.signed_data.message ≡ encoding f →
    AreOctets c.signed_data.signature.value → length (signed_content c.signed_data) < 2 ^ 32 → CanBeWritten f →
    IsMade c
made_of f c same is octets short can =
    record {
      message_is = is ∙ ap encoding (sym same);
      fields_are =
          subst CanBeWritten (sym same) can;
      signature_is = octets;
      short = short;
    }

-- ---- why it isn't

-- it isn't too long
pub captured_or_memory : (E : Type 0) (s : SignedFields) (e : EncodeError) →
    (e ≡ writing.TooLong → 2 ^ 32 ≤ length (signed_content s)) → length (signed_content s) < 2 ^ 32 →
    IsNoReadingFault {E = E} (Encode e)
captured_or_memory E s writing.TooLong long short = let h = long refl in omega arith
captured_or_memory E s writing.Memory long short = tt

-- it can be read
pub read_or_memory : (E : Type 0) {P : Type 0} (e : DecodeError) → Rejects e P → (P → ⊥) → IsNoReadingFault {E = E} (Decode e)
read_or_memory E reading.Memory h no_p = tt
read_or_memory E _ h no_p = no_p h

-- a made certificate can be read
pub readable : (c : CertFields) → IsMade c → IsUnreadable c.signed_data → ⊥
readable c made no_c =
    let can = made.fields_are in
    let own = certificate_made c can.fits made.message_is made.signature_is made.short can.resources can.only_v4 in
    no_c c (whole_means IsCertificate c (signed_data c.signed_data) own)

-- of what was made of the fields
pub not_made : {E : Type 0} (f : TbsFields) (MayAnswer : Result SignatureFields (SigningError E) → Type 0)
    (s : SignedFields) (e : IssueCaError E) → IsMadeOf f MayAnswer s → IsNotReadAgain s e → IsNotMade f MayAnswer e
not_made f MayAnswer s (Signing e) made h = absurd h
not_made f MayAnswer s (Encode writing.TooLong) made h = let short = made.short in omega arith
not_made f MayAnswer s (Encode writing.Memory) made h = tt
not_made f MayAnswer s (Validation e) made h = absurd h
not_made f MayAnswer s (Decode e) made h = of_it e h
  where
    of_it : (e : DecodeError) → Rejects e (IsUnreadable s) → Rejects e ((t : SignedFields) × IsMadeOf f MayAnswer t × IsUnreadable t)
    of_it reading.Memory h = tt
    of_it _ h = (s, made, h)

-- ---- of a result

-- what an Ok has may be weakened
pub if_ok : {T E : Type 0} (r : Result T E) (P Q : T → Type 0) → ((x : T) → P x → Q x) → IfOk r P → IfOk r Q
if_ok (Ok x) P Q f h = f x h
if_ok (Err e) P Q f h = tt

-- two things that an Ok has give a third
pub if_ok_both : {T E : Type 0} (r : Result T E) (P Q R : T → Type 0) → ((x : T) → P x → Q x → R x) → IfOk r P → IfOk r Q → IfOk r R
if_ok_both (Ok x) P Q R f g h = f x g h
if_ok_both (Err e) P Q R f g h = tt

certificate_data : (c : CertFields) (text : List ℕ) → IsCertificate c text → IsTbsCertificate c.fields c.signed_data.message
unfolding certificate_content_format
certificate_data c text s = s.1.1

-- what is read again of what was made of fields that fit shows that they can be written, and has
-- these fields
pub fields_again : {E : Type 0} (r : Result CertFields E) (f : TbsFields) → Fits f →
    IfOk r (λ c. IsCertificate c (signed_data c.signed_data)) → IfOk r (λ c. c.signed_data.message ≡ encoding f)
    → IfOk r (λ c. CanBeWritten f × (c.fields ≡ f))
fields_again (Ok c) f fits read is =
    let tbs : IsTbsCertificate c.fields (encoding f) = subst (λ (m : List ℕ). IsTbsCertificate c.fields m) is
    (certificate_data c (signed_data c.signed_data) read) in
    (can_be_written f c.fields fits tbs, fields_same f c.fields fits tbs)
fields_again (Err e) f fits read is = tt

-- what an Err has may be weakened
pub if_err : {T E : Type 0} (r : Result T E) (P Q : E → Type 0) → ((e : E) → P e → Q e) → IfErr r P → IfErr r Q
if_err (Ok x) P Q f h = tt
if_err (Err e) P Q f h = f e h
