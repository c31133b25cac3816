use Rattle.std.proofs.Common.{rules, ◌≡◌, Err, subst, sym, rc_value}
use Rattle.rpki_ext.specs.Kinds.{Means}
use Rattle.rpki_cert.specs.Certificates.{CertFields, IsCertificate}
use Rattle.rpki_cert.specs.Validation.{IsValidTrustAnchor}
use Rattle.rpki_cert.specs.Verification.{context}
use Rattle.rpki_path.specs.FaultNames.{of_validation}
use Rattle.rpki_path.specs.Paths.{trust_anchor_demand}
use Rattle.rpki_path.proofs.FoundSteps.{unread, not_valid}
use Rattle.rpki_path.proofs.validator.Validator.trust_anchor.Goals as goal

pub returns-in-Err-clause-fault : goal.returns-in-Err-clause-fault
returns-in-Err-clause-fault g c =
    let v = c.args.self.now in
    let x = context (g.V.Verifier.verifies v.verifier.now) v.at v.strict in
    unread x (trust_anchor_demand x) c.args.anchor.now c.in-Err.error c.in-Err.ensures.fault

pub returns-in_err-validate_ta_at-in-Ok-clause-fault : goal.returns-in_err-validate_ta_at-in-Ok-clause-fault
returns-in_err-validate_ta_at-in-Ok-clause-fault g c =
    let v = c.args.self.now in
    let x = context (g.V.Verifier.verifies v.verifier.now) v.at v.strict in
    let e = c.in_err-validate_ta_at-in-Ok.field-0.0 in
    let same : c.from_residual.result ≡ Err (of_validation e) = search rules in
    rw same (not_valid x (trust_anchor_demand x) c.args.anchor.now c.in-Ok.cert c.in-Ok.ensures.ok e
    c.in_err-validate_ta_at-in-Ok.ensures.fault)

pub returns-in_ok-validate_ta_at-in-Ok-clause-ok : goal.returns-in_ok-validate_ta_at-in-Ok-clause-ok
returns-in_ok-validate_ta_at-in-Ok-clause-ok g c =
    let v = c.args.self.now in
    let x = context (g.V.Verifier.verifies v.verifier.now) v.at v.strict in
    let r = c.in_ok-validate_ta_at-in-Ok.field-0 in
    let valid = c.in_ok-validate_ta_at-in-Ok.ensures.ok in
    let same = sym valid.listed.cert_is in
    record {
      begins = subst (λ (d : CertFields). Means IsCertificate d c.args.anchor.now) same c.in-Ok.ensures.ok;
      valid = subst (λ (d : CertFields). IsValidTrustAnchor x (rc_value c.args.tal) d r) same valid;
    }
