use Rattle.std.specs.Prelude.{Err}
use Rattle.std.proofs.Common.{rules, ◌≡◌, ◌<◌, ◌^◌, ℕ, List, length, refl, sym, ap, subst}
use Rattle.rpki_der.specs.Encoding.{Means}
use Rattle.rpki_der.specs.Place.{Rejects}
use Rattle.rpki_der.specs.Values.{AreOctets}
use Rattle.rpki_der.specs.declared.error.EncodeError.{EncodeError}
use Rattle.rpki_parts.specs.SignedDatas.{SignedFields, signed_content, signed_data}
use Rattle.rpki_cert.specs.Certificates.{CertFields, IsCertificate}
use Rattle.rpki_issuing.specs.IssuingErrors.{of_encoding}
use Rattle.rpki_issuing.specs.Readiness.{signed_with, IsUnassembled}
use Rattle.rpki_issuing.proofs.ReadSigned.{read_signed, own_octets, unread, unwritten, long_content}
use Rattle.rpki_issuing.proofs.assembling.assemble.Goals as goal

pub returns-in_err-signed-clause-fault : goal.returns-in_err-signed-clause-fault
returns-in_err-signed-clause-fault c =
    let f = c.args.tbs.now in
    let value = c.args.signature.now in
    let e = c.in_err-signed.field-0.0 in
    let same : c.from_residual.result ≡ Err (of_encoding e) = search rules in
    rw same (unwritten f value e
    (λ long. long_content f value (c.in_err-signed.ensures.too_long (ap (λ (d : EncodeError). Err d) long))))

pub returns-in-Ok-clause-same : goal.returns-in-Ok-clause-same
returns-in-Ok-clause-same c =
    let f = c.args.tbs.now in
    let value = c.args.signature.now in
    let is = c.in_ok-signed.ensures.ok in
    let s = (signed_with f value).signed_data in
    let octets : AreOctets value = subst (λ (d : SignedFields). AreOctets d.signature.value) is
    c.octets_of-written.ensures.value in
    let short = subst (λ (d : SignedFields). length (signed_content d) < 2 ^ 32) is
    (c.in_ok-octets.ensures.fits refl) in
    let all : c.in_ok-octets.octets ≡ signed_data s =
    subst (λ (d : SignedFields). c.in_ok-octets.octets ≡ signed_data d) is c.in_ok-octets.ensures.ok in
    let means = subst (λ (b : List ℕ). Means IsCertificate c.in-Ok.cert b) all c.in-Ok.ensures in
    (read_signed f value octets short c.in-Ok.cert c.in_ok-signed.ensures.fits
    (subst AreOctets all c.in_ok-octets.ensures.octets) means).1

pub returns-in-Ok-clause-made : goal.returns-in-Ok-clause-made
returns-in-Ok-clause-made c =
    let f = c.args.tbs.now in
    let value = c.args.signature.now in
    let is = c.in_ok-signed.ensures.ok in
    let s = (signed_with f value).signed_data in
    let octets : AreOctets value = subst (λ (d : SignedFields). AreOctets d.signature.value) is
    c.octets_of-written.ensures.value in
    let short = subst (λ (d : SignedFields). length (signed_content d) < 2 ^ 32) is
    (c.in_ok-octets.ensures.fits refl) in
    let all : c.in_ok-octets.octets ≡ signed_data s =
    subst (λ (d : SignedFields). c.in_ok-octets.octets ≡ signed_data d) is c.in_ok-octets.ensures.ok in
    let means = subst (λ (b : List ℕ). Means IsCertificate c.in-Ok.cert b) all c.in-Ok.ensures in
    (read_signed f value octets short c.in-Ok.cert c.in_ok-signed.ensures.fits
    (subst AreOctets all c.in_ok-octets.ensures.octets) means).0

pub returns-in-Ok-clause-read : goal.returns-in-Ok-clause-read
returns-in-Ok-clause-read c = own_octets c.in-Ok.cert c.in_ok-octets.octets c.in-Ok.ensures

pub returns-in-Err-clause-fault : goal.returns-in-Err-clause-fault
returns-in-Err-clause-fault c =
    let f = c.args.tbs.now in
    let value = c.args.signature.now in
    let e = c.in-Err.error in
    let is = c.in_ok-signed.ensures.ok in
    let s = (signed_with f value).signed_data in
    let octets : AreOctets value = subst (λ (d : SignedFields). AreOctets d.signature.value) is
    c.octets_of-written.ensures.value in
    let short = subst (λ (d : SignedFields). length (signed_content d) < 2 ^ 32) is
    (c.in_ok-octets.ensures.fits refl) in
    let all : c.in_ok-octets.octets ≡ signed_data s =
    subst (λ (d : SignedFields). c.in_ok-octets.octets ≡ signed_data d) is c.in_ok-octets.ensures.ok in
    let no_cert = subst (λ (b : List ℕ). Rejects e ((d : CertFields) → Means IsCertificate d b → ⊥)) all
    c.in-Err.ensures in
    subst (IsUnassembled f value) (sym c.from.ensures) (unread f value octets short e no_cert)
