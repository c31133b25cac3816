use Rattle.std.proofs.Common.{arith, ◌≡◌, refl, subst}
use Rattle.rpki_der.specs.Place.{Rejects}
use Rattle.rpki_der.specs.Values.{AreOctets}
use Rattle.rpki_parts.specs.SignedDatas.{signed_data}
use Rattle.rpki_ext.specs.Kinds.{Means}
use Rattle.rpki_cert.specs.Certificates.{CertFields, IsCertificate}
use Rattle.rpki_cert.proofs.CertificateFormats.{certificate_is}
use Rattle.rpki_cert.proofs.ReadAgain.{message_again, certificate_again, read_or_memory, readable}
use Rattle.rpki_cert.proofs.issue.read_again.Goals as goal

pub returns-in-Ok-decode-clause-message : goal.returns-in-Ok-decode-clause-message
returns-in-Ok-decode-clause-message g c f is =
    let all : c.rest-octets.result.now ≡ signed_data c.args.made.now.signed_data =
    grind (arith, c.rest-octets.ensures.remaining, c.new.ensures.all, c.in-Ok.ensures.ok, c.octets.view_is) in
    let octets : AreOctets (signed_data c.args.made.now.signed_data) = subst AreOctets all c.rest-octets.ensures.octets in
    let same : c.deref.result.now ≡ signed_data c.args.made.now.signed_data =
    grind (arith, c.deref.ensures, c.in-Ok.ensures.ok, c.octets.view_is) in
    message_again c.args.made.now.signed_data f c.in-Ok-decode.cert is octets (c.in-Ok.ensures.fits refl)
    (subst (λ o. Means IsCertificate c.in-Ok-decode.cert o) same c.in-Ok-decode.ensures)

pub returns-in-Ok-decode-clause-read : goal.returns-in-Ok-decode-clause-read
returns-in-Ok-decode-clause-read g c =
    let cert = c.in-Ok-decode.cert in
    let (_, begins) = c.in-Ok-decode.ensures in
    subst (λ o. IsCertificate cert o) (certificate_is cert begins.text begins.encoded) begins.encoded

pub returns-in-Ok-decode-clause-same : goal.returns-in-Ok-decode-clause-same
returns-in-Ok-decode-clause-same g c made =
    let same : c.deref.result.now ≡ signed_data c.args.made.now.signed_data =
    grind (arith, c.deref.ensures, c.in-Ok.ensures.ok, c.octets.view_is) in
    certificate_again c.args.made.now c.in-Ok-decode.cert made
    (subst (λ o. Means IsCertificate c.in-Ok-decode.cert o) same c.in-Ok-decode.ensures)

pub returns-clause-rejected : goal.returns-clause-rejected
returns-clause-rejected g c =
    let same : c.deref.result.now ≡ signed_data c.args.made.now.signed_data =
    grind (arith, c.deref.ensures, c.in-Ok.ensures.ok, c.octets.view_is) in
    subst (λ o. Rejects c.in-Err-decode.error ((d : CertFields) → Means IsCertificate d o → ⊥)) same c.in-Err-decode.ensures

pub returns-clause-readable : goal.returns-clause-readable
returns-clause-readable g c made =
    let same : c.deref.result.now ≡ signed_data c.args.made.now.signed_data =
    grind (arith, c.deref.ensures, c.in-Ok.ensures.ok, c.octets.view_is) in
    read_or_memory g.row.E.Denot c.in-Err-decode.error
    (subst (λ o. Rejects c.in-Err-decode.error ((d : CertFields) → Means IsCertificate d o → ⊥)) same
    c.in-Err-decode.ensures) (readable c.args.made.now made)
