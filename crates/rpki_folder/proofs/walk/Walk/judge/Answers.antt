use Rattle.std.specs.Prelude.{IsTrue}
use Rattle.std.proofs.Common.{◌≡◌, ◌↔◌, ℕ, List, sym, ap, subst, ◌∙◌}
use Rattle.rpki_ext.specs.Kinds.{Means}
use Rattle.rpki_parts.specs.Keys.{KeyFields}
use Rattle.rpki_parts.specs.SignedDatas.{SignedFields}
use Rattle.rpki_cert.specs.Certificates.{TbsFields, CertFields, IsCertificate}
use Rattle.rpki_cert.specs.Verification.{IsSignedBy}
use Rattle.rpki_folder.specs.Folders.{string_at}
use Rattle.rpki_folder.specs.Walks.{StandsAt}
use Rattle.rpki_folder.proofs.StepAnswers.{octets_here}
use Rattle.rpki_folder.proofs.walk.Walk.judge.Goals as goal

pub new-known-requires : goal.new-known-requires
new-known-requires g c =
    let w = c.args.self.now in
    let verifies = g.V.Verifier.verifies w.verifier.now in
    let certs = w.folder.now.certs in
    let place = c.args.place in
    let here : c.index-certs-place.result ≡ string_at certs place = octets_here certs c.certs.result.now place
    c.index-certs-place.result c.certs.ensures c.index-certs-place.is c.requires.place in
    let cert = c.in_ok-cert.cert in
    let stands : StandsAt certs place cert = subst (λ (o : List ℕ). Means IsCertificate cert o) here
    c.in_ok-cert.ensures in
    let key : c.subject_public_key_info-key.result.now ≡ c.args.issuer.now.cert.fields.key =
    c.subject_public_key_info-key.ensures ∙ ap (λ (f : TbsFields). f.key) c.as_tbs.ensures ∙
    ap (λ (d : CertFields). d.fields.key) c.as_cert.ensures in
    subst (λ (m : SignedFields). IsTrue c.args.is_signed ↔
    IsSignedBy verifies c.subject_public_key_info-key.result.now m) (sym c.signed_data.ensures)
    (subst (λ (k : KeyFields). IsTrue c.args.is_signed ↔ IsSignedBy verifies k cert.signed_data) (sym key)
    (c.requires.signed cert stands))
