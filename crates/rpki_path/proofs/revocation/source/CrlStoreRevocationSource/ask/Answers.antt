use Rattle.std.proofs.Common.{◌≡◌, Some, sym, ap, ◌∙◌}
use Rattle.rpki_cert.specs.Certificates.{TbsFields}
use Rattle.rpki_cert.specs.Verification.{context}
use Rattle.rpki_crl.proofs.NamedLists.{tests_named}
use Rattle.rpki_path.proofs.revocation.source.CrlStoreRevocationSource.ask.Goals as goal

pub returns-in-Some : goal.returns-in-Some
returns-in-Some g c =
    let x = context (g.V.Verifier.verifies c.args.verifier.now) c.args.now c.args.strict in
    let pairs = c.args.self.now.pairs in
    let issuer = c.args.issuer.now.cert.fields in
    let cert = c.args.cert.now in
    let uri = c.in-Some.uri.now in
    let named : cert.fields.extensions.crl_uri ≡ Some uri = ap (λ (f : TbsFields). f.extensions.crl_uri)
    (sym c.as_tbs-tbs.ensures) ∙ sym c.in-Some.ensures in
    let serial : c.serial_number.result ≡ cert.fields.serial = c.serial_number.ensures ∙
    ap (λ (f : TbsFields). f.serial) c.as_tbs-tbs.ensures in
    tests_named x pairs issuer cert uri named c.serial_number.result (sym serial) c.check.result c.check.ensures.checks
