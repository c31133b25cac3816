use Rattle.std.proofs.Common.{rules, ◌≡◌, Err}
use Rattle.rpki_cert.specs.Verification.{context}
use Rattle.rpki_path.specs.FaultNames.{of_validation}
use Rattle.rpki_path.specs.declared.path_fault.PathFault.TheVariants.{Revocation}
use Rattle.rpki_path.proofs.Routers.{router_invalid, router_revoked}
use Rattle.rpki_path.proofs.validator.Validator.test_router.Goals as goal

pub returns-in_err-validate_router_at-clause-fault : goal.returns-in_err-validate_router_at-clause-fault
returns-in_err-validate_router_at-clause-fault g c = λ octets begins.
    let v = c.args.self.now in
    let x = context (g.V.Verifier.verifies v.verifier.now) v.at v.strict in
    let asked = g.R.RevocationSource.asks v.asked.now x in
    let e = c.in_err-validate_router_at.field-0.0 in
    let same : c.from_residual.result ≡ Err (of_validation e) = search rules in
    rw same (router_invalid x asked c.args.issuer.now c.args.cert.now octets begins e
    c.in_err-validate_router_at.ensures.fault)

pub returns-in_err-ask-clause-fault : goal.returns-in_err-ask-clause-fault
returns-in_err-ask-clause-fault g c = λ octets begins.
    let v = c.args.self.now in
    let x = context (g.V.Verifier.verifies v.verifier.now) v.at v.strict in
    let asked = g.R.RevocationSource.asks v.asked.now x in
    let e = c.in_err-ask.field-0.0 in
    let same : c.from_residual-in_err-ask.result ≡ Err (Revocation e) = search rules in
    rw same (router_revoked x asked c.args.issuer.now c.args.cert.now octets begins
    c.in_ok-validate_router_at.ensures.profile c.in_ok-validate_router_at.ensures.checks e
    c.in_err-ask.ensures)
