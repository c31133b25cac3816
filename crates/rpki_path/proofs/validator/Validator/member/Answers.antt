use Rattle.std.proofs.Common.{rules, ◌≡◌, Err, subst}
use Rattle.rpki_parts.specs.Conditions.{IsFirstFalse, Tests}
use Rattle.rpki_cert.specs.Certificates.{CertFields}
use Rattle.rpki_cert.specs.Verification.{context, IsVerified}
use Rattle.rpki_crl.specs.Revocation.{revocation_checks}
use Rattle.rpki_path.specs.FaultNames.{of_validation}
use Rattle.rpki_path.specs.declared.path_fault.PathFault.TheVariants.{Revocation}
use Rattle.rpki_path.specs.Paths.Steps.{demand_under, kind_of}
use Rattle.rpki_path.proofs.FoundSteps.{unread, not_valid, issued_by, revoked_below}
use Rattle.rpki_path.proofs.validator.Validator.member.Goals as goal

pub returns-in_err-cert-clause-fault : goal.returns-in_err-cert-clause-fault
returns-in_err-cert-clause-fault g c =
    let v = c.args.self.now in
    let x = context (g.V.Verifier.verifies v.verifier.now) v.at v.strict in
    let asked = g.R.RevocationSource.asks v.asked.now x in
    let e = c.in_err-cert.field-0.0 in
    let same : c.from_residual.result ≡ Err e = search rules in
    rw same (unread x (demand_under x asked c.args.issuer.now (kind_of c.args.role)) c.args.given.now e
    c.in_err-cert.ensures.fault)

pub returns-in_err-member-clause-fault : goal.returns-in_err-member-clause-fault
returns-in_err-member-clause-fault g c =
    let v = c.args.self.now in
    let x = context (g.V.Verifier.verifies v.verifier.now) v.at v.strict in
    let asked = g.R.RevocationSource.asks v.asked.now x in
    let e = c.in_err-member.field-0.0 in
    let same : c.from_residual-in_err-member.result ≡ Err (of_validation e) = search rules in
    rw same (not_valid x (demand_under x asked c.args.issuer.now (kind_of c.args.role)) c.args.given.now
    c.in_ok-cert.cert c.in_ok-cert.ensures.ok e c.in_err-member.ensures.fault)

pub returns-in_err-member-2-clause-fault : goal.returns-in_err-member-2-clause-fault
returns-in_err-member-2-clause-fault g c =
    let v = c.args.self.now in
    let x = context (g.V.Verifier.verifies v.verifier.now) v.at v.strict in
    let asked = g.R.RevocationSource.asks v.asked.now x in
    let issuer = c.args.issuer.now in
    let member = c.in_ok-member.member in
    let e = c.in_err-member-2.field-0.0 in
    let same : c.from_residual-in_err-member-2.result ≡ Err (Revocation e) = search rules in
    let tests = subst (λ (d : CertFields). Tests (asked issuer.cert.fields d) revocation_checks c.ask-test.result)
    c.as_cert.ensures c.ask-test.ensures in
    let first : IsFirstFalse (asked issuer.cert.fields member.cert) revocation_checks e =
    rw c.in_err-member-2.ensures.rejected at tests in
    rw same (revoked_below x asked issuer (kind_of c.args.role) c.args.given.now c.in_ok-cert.cert member
    c.in_ok-cert.ensures.ok c.in_ok-member.ensures.ok e first)

pub returns-clause-ok : goal.returns-clause-ok
returns-clause-ok g c =
    let v = c.args.self.now in
    let x = context (g.V.Verifier.verifies v.verifier.now) v.at v.strict in
    let asked = g.R.RevocationSource.asks v.asked.now x in
    let issuer = c.args.issuer.now in
    let member = c.in_ok-member.member in
    let tests = subst (λ (d : CertFields). Tests (asked issuer.cert.fields d) revocation_checks c.ask-test.result)
    c.as_cert.ensures c.ask-test.ensures in
    let free : IsVerified (asked issuer.cert.fields member.cert) revocation_checks =
    rw c.in_ok-member-2.ensures.ok.1 at tests in
    rw c.in_ok-member-2.ensures.ok.0
    (issued_by x asked issuer (kind_of c.args.role) c.args.given.now c.in_ok-cert.cert member
    c.in_ok-cert.ensures.ok c.in_ok-member.ensures.ok free)
