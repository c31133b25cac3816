use Rattle.std.specs.Prelude.{Err}
use Rattle.std.proofs.Common.{rules, ◌≡◌, ◌<◌, ◌^◌, ℕ, List, length, refl, sym, ap, subst}
use Rattle.std.proofs.lemmas.Bool.{false≢true}
use Rattle.rpki_der.specs.Values.{AreOctets}
use Rattle.rpki_der.specs.declared.error.EncodeError.{EncodeError}
use Rattle.rpki_der.proofs.Answering.{memory_alone, whole_means}
use Rattle.rpki_der.proofs.Formats.{one_meant}
use Rattle.rpki_parts.specs.SignedDatas.{SignedFields, signed_content, signed_data}
use Rattle.rpki_crl.specs.Lists.{CrlFields, IsCertificateList, IsMadeList}
use Rattle.rpki_issuing.specs.ListReadiness.{list_signed_with, of_list_encoding}
use Rattle.rpki_issuing.proofs.ListSignatures.{made_list, unwritten_list, long_list}
use Rattle.rpki_issuing.proofs.prepared_list.assemble.Goals as goal

pub returns-in_err-signed-clause-fault : goal.returns-in_err-signed-clause-fault
returns-in_err-signed-clause-fault c =
    let f = c.args.fields.now in
    let value = c.args.signature.now in
    let e = c.in_err-signed.field-0.0 in
    let same : c.from_residual.result ≡ Err (of_list_encoding e) = search rules in
    rw same (unwritten_list f value e
    (λ long. long_list f value (c.in_err-signed.ensures.too_long (ap (λ (d : EncodeError). Err d) long))))

pub unreachable-requires : goal.unreachable-requires
unreachable-requires c =
    let f = c.args.fields.now in
    let value = c.args.signature.now in
    let list = list_signed_with f value in
    let is = c.in_ok-signed.ensures.ok in
    let octets : AreOctets value = subst (λ (d : SignedFields). AreOctets d.signature.value) is
    c.octets_of-written.ensures.value in
    let short = subst (λ (d : SignedFields). length (signed_content d) < 2 ^ 32) is
    (c.in_ok-octets.ensures.fits refl) in
    let made : IsMadeList list = made_list f value c.in_ok-signed.ensures.fits octets short in
    let all : c.in_ok-octets.octets ≡ signed_data list.signed_data =
    subst (λ (d : SignedFields). c.in_ok-octets.octets ≡ signed_data d) is c.in_ok-octets.ensures.ok in
    let own = whole_means IsCertificateList list c.in_ok-octets.octets
    (subst (λ (b : List ℕ). IsCertificateList list b) (sym all) (c.written_is_read.ensures.list list made)) in
    false≢true (c.if-not-is_memory.ensures.1
    (memory_alone c.in-Err.error c.in-Err.ensures.means (λ none. none list own)))

pub returns-in-Ok-clause-same : goal.returns-in-Ok-clause-same
returns-in-Ok-clause-same c =
    let f = c.args.fields.now in
    let value = c.args.signature.now in
    let list = list_signed_with f value in
    let is = c.in_ok-signed.ensures.ok in
    let octets : AreOctets value = subst (λ (d : SignedFields). AreOctets d.signature.value) is
    c.octets_of-written.ensures.value in
    let short = subst (λ (d : SignedFields). length (signed_content d) < 2 ^ 32) is
    (c.in_ok-octets.ensures.fits refl) in
    let made : IsMadeList list = made_list f value c.in_ok-signed.ensures.fits octets short in
    let all : c.in_ok-octets.octets ≡ signed_data list.signed_data =
    subst (λ (d : SignedFields). c.in_ok-octets.octets ≡ signed_data d) is c.in_ok-octets.ensures.ok in
    let own = whole_means IsCertificateList list c.in_ok-octets.octets
    (subst (λ (b : List ℕ). IsCertificateList list b) (sym all) (c.written_is_read.ensures.list list made)) in
    one_meant IsCertificateList c.unambiguous.ensures.list c.in-Ok.crl.list list c.in_ok-octets.octets
    c.in-Ok.ensures.means own

pub returns-in-Ok-clause-made : goal.returns-in-Ok-clause-made
returns-in-Ok-clause-made c =
    let f = c.args.fields.now in
    let value = c.args.signature.now in
    let list = list_signed_with f value in
    let is = c.in_ok-signed.ensures.ok in
    let octets : AreOctets value = subst (λ (d : SignedFields). AreOctets d.signature.value) is
    c.octets_of-written.ensures.value in
    let short = subst (λ (d : SignedFields). length (signed_content d) < 2 ^ 32) is
    (c.in_ok-octets.ensures.fits refl) in
    let made : IsMadeList list = made_list f value c.in_ok-signed.ensures.fits octets short in
    let all : c.in_ok-octets.octets ≡ signed_data list.signed_data =
    subst (λ (d : SignedFields). c.in_ok-octets.octets ≡ signed_data d) is c.in_ok-octets.ensures.ok in
    let own = whole_means IsCertificateList list c.in_ok-octets.octets
    (subst (λ (b : List ℕ). IsCertificateList list b) (sym all) (c.written_is_read.ensures.list list made)) in
    let same = one_meant IsCertificateList c.unambiguous.ensures.list c.in-Ok.crl.list list c.in_ok-octets.octets
    c.in-Ok.ensures.means own in
    subst (λ (l : CrlFields). IsMadeList l) (sym same) made
