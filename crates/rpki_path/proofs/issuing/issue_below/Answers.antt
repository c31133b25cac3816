use Rattle.rpki_cert.specs.Certificates.{encoding}
use Rattle.rpki_cert.specs.Verification.{context}
use Rattle.rpki_cert.specs.declared.inspect.Kind.TheVariants.{Authority}
use Rattle.rpki_cert.proofs.ReadAgain.{if_ok}
use Rattle.rpki_cert.proofs.SurelyIssued.{issued_or_memory}
use Rattle.rpki_path.specs.Routers.{by_uri_if_any}
use Rattle.rpki_path.proofs.ValidPaths.{valid_then, held_then}
use Rattle.rpki_path.proofs.issuing.issue_below.Goals as goal

pub returns-clause-path : goal.returns-clause-path
returns-clause-path g c = λ lists p tal is_valid held.
    let x = context (g.V.Verifier.verifies c.args.verifier.now) c.args.now c.args.strict in
    let asked = by_uri_if_any x lists in
    let issuer = c.args.issuer.now in
    if_ok c.issue_ca.result
    _ _ (λ r valid free. (
      valid_then x asked p tal issuer held Authority r is_valid valid free,
      held_then x asked p tal issuer held Authority r valid.issued,
    )) c.issue_ca.ensures.valid

pub returns-clause-memory : goal.returns-clause-memory
returns-clause-memory g c =
    let x = context (g.V.Verifier.verifies c.args.verifier.now) c.args.now c.args.strict in
    let tbs = c.args.tbs in
    let answers = g.S.Signer.signs c.args.signer.now c.args.key.now tbs.algorithm (encoding tbs) in
    issued_or_memory tbs answers c.requires.written x c.args.issuer.now Authority
    (λ s may. (c.requires.profile s may, c.requires.checks s may)) c.requires.signs c.requires.fits
    c.issue_ca.result c.issue_ca.ensures.rejected (c.issue_ca.ensures.readable c.requires.written)
