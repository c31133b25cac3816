-- The first octet inside the SEQUENCE that a certificate or a list begins with.
use Rattle.std.specs.Prelude.{Result, Ok, Err, IfSome, IsSomeAnd, slice_get}
use Rattle.std.specs.Result.{result_ok}
use Rattle.std.proofs.Common.{◌≡◌, ℕ, List, [], ◌∷◌, refl, arith}
use Rattle.rpki_der.specs.Encoding.{Means}
use Rattle.rpki_der.specs.declared.error.DecodeError.{DecodeError}
use Rattle.rpki_der.specs.Place.{Place, remaining, ReadsFrontBy}
use Rattle.rpki_der.specs.Tags.{SEQUENCE}
use Rattle.rpki_der.specs.Values.{IsEnc}
use Rattle.rpki_cert.specs.Certificates.{certificate_content_format, tbs_content_format, version_format}
use Rattle.rpki_crl.specs.Lists.{certificate_list_content_format, certificate_list_format, list_content_format, list_format, version_2}
use Rattle.rpki_der.specs.Skipping.{levels}
use Rattle.rpki_der.proofs.FormatLaws.{begins_so}
use Rattle.rpki_parts.proofs.SignedFormats.{signed_parts}
use Rattle.rpki_cert.proofs.CertificateFormats.{tbs_content_alone}
use Rattle.rpki_crl.proofs.ListFormats.{list_content_alone}
use Rattle.rpki_files.proofs.FlawReads.{one_content}
use Rattle.rpki_files.specs.Contents.{BeginsWithCertificate, BeginsWithList, HasFirstInside}

-- of a list it is the tag of its version
pub list_first : (octets : List ℕ) → BeginsWithList octets → HasFirstInside 0x02 octets
unfolding certificate_list_format certificate_list_content_format list_format list_content_format version_2
list_first octets (r, (rest, b)) =
    let (content, (one_algorithm, (signed, (inner, fields, inner_enc))), enc) = b.encoded in
    let first = begins_so 0x02 (list_content_format levels) refl (omega arith) (list_content_alone levels).law r.fields inner fields in
    record {
      outer = content;
      inner = inner;
      rest = first.0;
      begins = (rest, record { text = b.text; encoded = enc; parts = b.parts });
      inside = (_, record { text = r.signed_data.message; encoded = inner_enc; parts = (signed_parts r.signed_data content signed).is });
      first_is = first.1;
    }

-- of a certificate it is the tag around its version
pub certificate_first : (octets : List ℕ) → BeginsWithCertificate octets → HasFirstInside 0xA0 octets
unfolding certificate_content_format tbs_content_format version_format
certificate_first octets (c, (rest, b)) =
    let (content, (signed, (inner, fields, inner_enc)), enc) = b.encoded in
    let first = begins_so 0xA0 (tbs_content_format levels) refl (omega arith) tbs_content_alone.law c.fields inner fields in
    record {
      outer = content;
      inner = inner;
      rest = first.0;
      begins = (rest, record { text = b.text; encoded = enc; parts = b.parts });
      inside = (_, record { text = c.signed_data.message; encoded = inner_enc; parts = (signed_parts c.signed_data content signed).is });
      first_is = first.1;
    }

-- a reader that has gone in stands at the one content
pub entered : (old new : Place) (r : Result Place DecodeError) → ReadsFrontBy remaining (IsEnc SEQUENCE) old r new →
    (content : List ℕ) → Means (IsEnc SEQUENCE) content (remaining old)
    → IsSomeAnd (result_ok r) (λ inside. remaining inside ≡ content)
entered old new (Ok inside) a content m = one_content SEQUENCE (remaining inside) content (remaining old) (remaining new, a) m
entered old new (Err e) a content m = absurd (a.1 content m.0 m.1)

-- and what it stands at is the content
pub gone_in : (old new : Place) (r : Result Place DecodeError) → ReadsFrontBy remaining (IsEnc SEQUENCE) old r new →
    IfSome (result_ok r) (λ inside. Means (IsEnc SEQUENCE) (remaining inside) (remaining old))
gone_in old new (Ok inside) a = (remaining new, a)
gone_in old new (Err e) a = tt

-- the first octet of the inner content, where that has one
pub first_found : (octets outer inner : List ℕ) → Means (IsEnc SEQUENCE) outer octets →
    Means (IsEnc SEQUENCE) inner outer → IfSome (slice_get inner 0) (λ first. HasFirstInside first octets)
first_found octets outer [] begins within = tt
first_found octets outer (first ∷ rest) begins within =
    record { outer = outer; inner = first ∷ rest; rest = rest; begins = begins; inside = within; first_is = refl }
