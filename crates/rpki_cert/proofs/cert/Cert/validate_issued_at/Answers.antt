use Rattle.std.specs.Prelude.{Err}
use Rattle.std.proofs.Common.{rules, ◌≡◌, subst}
use Rattle.rpki_cert.specs.Certificates.{CertFields}
use Rattle.rpki_cert.specs.Verification.{context, CheckUnder, IsVerified, IsFirstFalseOrMemory, HasIssued, issued_checks}
use Rattle.rpki_cert.specs.declared.validation_error.ValidationError.TheVariants.{Verification}
use Rattle.rpki_cert.proofs.cert.Cert.validate_issued_at.Goals as goal

pub returns-in_err-verify_ca_at-clause-fault : goal.returns-in_err-verify_ca_at-clause-fault
returns-in_err-verify_ca_at-clause-fault g c =
    let x = context (g.V.Verifier.verifies c.args.verifier.now) c.args.now c.args.strict in
    let e = c.in_err-verify_ca_at.field-0.0 in
    let fails = subst (λ (m : CertFields). IsFirstFalseOrMemory (CheckUnder x c.args.issuer.now m) issued_checks e)
    c.in_ok-cert.ensures.same c.in_err-verify_ca_at.ensures.checks in
    let same : c.from_residual-in_err-verify_ca_at.result ≡ Err (Verification e) = search rules in
    rw same (c.in_ok-cert.ensures.profile, fails)

pub returns-clause-ok : goal.returns-clause-ok
returns-clause-ok g c =
    let x = context (g.V.Verifier.verifies c.args.verifier.now) c.args.now c.args.strict in
    let issuer = c.args.issuer.now in
    let same = c.in_ok-cert.ensures.same in
    let verified = c.in_ok-verify_ca_at.ensures in
    record {
      meets = c.in_ok-cert.ensures.profile;
      checks = subst (λ (m : CertFields). IsVerified (CheckUnder x issuer m) issued_checks) same verified.checks;
      issued = subst (λ (m : CertFields). HasIssued m issuer c.in_ok-verify_ca_at.field-0) same verified.gives;
    }
