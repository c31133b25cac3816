-- A list is written as it was read, and signed data round the encoding of fields is a list.
use Rattle.std.specs.Cmp.{booleans_Decides}
use Rattle.std.proofs.Common.{ℕ, List, ◌≡◌, true, refl, sym, ap, subst, ◌∙◌}
use Rattle.rpki_der.specs.Tags.{SEQUENCE}
use Rattle.rpki_der.specs.Values.{IsValue, enc}
use Rattle.rpki_der.proofs.Formats.{of_enc}
use Rattle.rpki_parts.specs.SignedDatas.{signed_content, signed_data}
use Rattle.rpki_parts.proofs.SignedFormats.{content_is, signed_made, signed_enc}
use Rattle.rpki_crl.specs.Lists.{CrlFields, IsCertificateList, IsMadeList, IsTbsCertList}
use Rattle.rpki_crl.specs.Lists.{certificate_list_content_format, certificate_list_format, has_one_algorithm}
use Rattle.rpki_crl.proofs.ListFormats.{data_made, list_made}

-- a revocation list is the encoding of its signed data
pub list_is : (r : CrlFields) (b : List ℕ) → IsCertificateList r b → b ≡ signed_data r.signed_data
unfolding certificate_list_format certificate_list_content_format
list_is r b (content, (same, (signed_is, fields_are)), encoded) = encoded.is ∙
    ap (enc SEQUENCE) (content_is r.signed_data content signed_is)

-- a made list's signed data encodes it
pub signed_list : (r : CrlFields) → IsMadeList r → IsCertificateList r (signed_data r.signed_data)
unfolding certificate_list_format certificate_list_content_format
signed_list r is =
    let s = r.signed_data in
    let message : IsValue s.message = of_enc (data_made r.fields is.fields_are s.message is.message_is) in
    let same : has_one_algorithm r ≡ true =
    rw is.same_algorithm
    ((booleans_Decides s.signature.algorithm.has_null s.signature.algorithm.has_null).1 refl) in
    let fields_are : IsTbsCertList r.fields s.message = subst (λ (b : List ℕ). IsTbsCertList r.fields b)
    (sym is.message_is) (list_made r.fields is.fields_are) in
    (signed_content s, (same, (signed_made s message is.signature_is is.short, fields_are)), signed_enc s message is.signature_is is.short)
