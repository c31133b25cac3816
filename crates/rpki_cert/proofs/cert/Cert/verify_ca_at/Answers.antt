use Rattle.std.proofs.Common.{rules, ◌≡◌, Err}
use Rattle.rpki_cert.specs.Verification.{context, CheckUnder, IsFirstFalseOrMemory, issued_checks}
use Rattle.rpki_cert.proofs.cert.Cert.verify_ca_at.Goals as goal

pub returns-in_err-cert-clause-checks : goal.returns-in_err-cert-clause-checks
returns-in_err-cert-clause-checks g c =
    let x = context (g.V.Verifier.verifies c.args.verifier.now) c.args.now c.args.strict in
    let e = c.in_err-cert.field-0.0 in
    let same : c.from_residual.result ≡ Err e = search rules in
    let fails : IsFirstFalseOrMemory (CheckUnder x c.args.issuer.now c.args.self) issued_checks e =
    rw c.in_err-cert.ensures.rejected at c.kept_below-tested.ensures.checks in
    rw same fails
