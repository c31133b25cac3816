use Rattle.std.specs.Prelude.{Err}
use Rattle.std.proofs.Common.{rules, ◌≡◌, subst, rc_value}
use Rattle.rpki_cert.specs.Certificates.{CertFields}
use Rattle.rpki_cert.specs.Verification.{context, TrustAnchorCheck, IsVerified, IsFirstFalseOrMemory, HasListed, trust_anchor_checks}
use Rattle.rpki_cert.specs.declared.validation_error.ValidationError.TheVariants.{Verification}
use Rattle.rpki_cert.proofs.cert.Cert.validate_ta_at.Goals as goal

pub returns-in_err-verify_ta_at-clause-fault : goal.returns-in_err-verify_ta_at-clause-fault
returns-in_err-verify_ta_at-clause-fault g c =
    let x = context (g.V.Verifier.verifies c.args.verifier.now) c.args.now c.args.strict in
    let e = c.in_err-verify_ta_at.field-0.0 in
    let fails = subst (λ (m : CertFields). IsFirstFalseOrMemory (TrustAnchorCheck x m) trust_anchor_checks e)
    c.in_ok-cert.ensures.same c.in_err-verify_ta_at.ensures.checks in
    let same : c.from_residual-in_err-verify_ta_at.result ≡ Err (Verification e) = search rules in
    rw same (c.in_ok-cert.ensures.profile, fails)

pub returns-clause-ok : goal.returns-clause-ok
returns-clause-ok g c =
    let x = context (g.V.Verifier.verifies c.args.verifier.now) c.args.now c.args.strict in
    let same = c.in_ok-cert.ensures.same in
    let verified = c.in_ok-verify_ta_at.ensures in
    record {
      meets = c.in_ok-cert.ensures.profile;
      checks = subst (λ (m : CertFields). IsVerified (TrustAnchorCheck x m) trust_anchor_checks) same verified.checks;
      listed = subst (λ (m : CertFields). HasListed m (rc_value c.args.tal) c.in_ok-verify_ta_at.field-0) same verified.gives;
    }
