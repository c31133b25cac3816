use Rattle.std.proofs.Common.{◌≡◌, ◌<◌, ℕ, List, [], length, sym, ap, subst, ◌∙◌}
use Rattle.std.proofs.lemmas.Bool.{false≢true}
use Rattle.std.proofs.lemmas.List.{get_or_read}
use Rattle.rpki_ext.specs.Kinds.{Means}
use Rattle.rpki_der.proofs.Formats.{one_meant}
use Rattle.rpki_cert.specs.Certificates.{CertFields, TbsFields, IsCertificate}
use Rattle.rpki_folder.specs.Folders.{string_at}
use Rattle.rpki_folder.proofs.walk.Walk.try_anchor.Goals as goal

pub returns-then-not-has_key : goal.returns-then-not-has_key
returns-then-not-has_key g c = λ key.
    let certs = c.args.self.now.folder.now.certs in
    let place = c.args.place in
    let cert = c.in_ok-cert.cert in
    let low : place < length c.certs.result.now = subst (λ (l : List (List ℕ)). place < length l)
    (sym c.certs.ensures) c.requires in
    let filed : c.index-certs-place.result ≡ string_at certs place =
    get_or_read c.certs.result.now place c.index-certs-place.result low c.index-certs-place.is [] ∙
    ap (λ (l : List (List ℕ)). string_at l place) c.certs.ensures in
    let means : Means IsCertificate cert (string_at certs place) =
    subst (λ (o : List ℕ). Means IsCertificate cert o) filed c.in_ok-cert.ensures in
    let same : cert ≡ key.cert = one_meant IsCertificate c.unambiguous.ensures.certificate cert key.cert
    (string_at certs place) means key.begins in
    let key_is = c.subject_public_key_info.ensures ∙ ap (λ (f : TbsFields). f.key) c.as_tbs.ensures ∙
    ap (λ (d : CertFields). d.fields.key) same ∙ key.key_is in
    false≢true (sym c.if-not-has_key.true ∙ c.has_key.ensures.1 key_is)
