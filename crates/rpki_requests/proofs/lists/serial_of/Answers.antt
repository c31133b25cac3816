use Rattle.std.proofs.Common.{◌≡◌, ℕ, sym, ap, subst, ◌∙◌}
use Rattle.std.proofs.lemmas.Bool.{false≢true}
use Rattle.rpki_cert.specs.Certificates.{TbsFields}
use Rattle.rpki_issuing.specs.OnlyValues.{IsOnly}
use Rattle.rpki_requests.specs.RequestFiles.{IsRevokedFile}
use Rattle.rpki_requests.proofs.RevokedFiles.{revoked_is, revoked_not}
use Rattle.rpki_requests.proofs.lists.serial_of.Goals as goal

pub returns-in_default : goal.returns-in_default
returns-in_default c = λ serial h. c.in_default.ensures h.cert h.is_cert

pub returns-then-not-names_key : goal.returns-then-not-names_key
returns-then-not-names_key c =
    revoked_not c.args.issuer.now c.args.file.now.octets c.unambiguous.ensures.certificate c.in-Some.cert.now
    c.in-Some.ensures
    (λ names. false≢true (sym c.if-not-names_key.true ∙
    c.names_key.ensures.1 (ap (λ (f : TbsFields). f.extensions.authority_key_identifier) c.as_tbs.ensures ∙
    names)))

pub returns : goal.returns
returns c =
    let issuer = c.args.issuer.now in
    let octets = c.args.file.now.octets in
    let cert = c.in-Some.cert.now in
    let names = ap (λ (f : TbsFields). f.extensions.authority_key_identifier) (sym c.as_tbs.ensures) ∙
    c.names_key.ensures.0 c.if-not-names_key.false in
    let serial : c.serial_number.result ≡ cert.fields.serial = c.serial_number.ensures ∙
    ap (λ (f : TbsFields). f.serial) c.as_tbs-2.ensures in
    subst (λ (n : ℕ). IsOnly (λ (m : ℕ). IsRevokedFile issuer m octets) n) (sym serial)
    (revoked_is issuer octets c.unambiguous.ensures.certificate cert c.in-Some.ensures names)
