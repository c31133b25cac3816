use Rattle.std.specs.Prelude.{Result}
use Rattle.std.proofs.Common.{rules, ◌≡◌, Err, IfErr, subst}
use Rattle.rpki_cert.specs.Verification.{context}
use Rattle.rpki_path.specs.declared.path_fault.PathFault.{PathFault}
use Rattle.rpki_path.specs.Paths.{Finds}
use Rattle.rpki_path.specs.Routers.{router_demand}
use Rattle.rpki_path.proofs.FoundSteps.{unread}
use Rattle.rpki_path.proofs.validator.Validator.router.Goals as goal

pub returns-in_err-cert-clause-fault : goal.returns-in_err-cert-clause-fault
returns-in_err-cert-clause-fault g c =
    let v = c.args.self.now in
    let x = context (g.V.Verifier.verifies v.verifier.now) v.at v.strict in
    let asked = g.R.RevocationSource.asks v.asked.now x in
    let e = c.in_err-cert.field-0.0 in
    let same : c.from_residual.result ≡ Err e = search rules in
    rw same (unread x (router_demand x asked c.args.issuer.now) c.args.given.now e c.in_err-cert.ensures.fault)

pub returns-in_err-cert-2-clause-fault : goal.returns-in_err-cert-2-clause-fault
returns-in_err-cert-2-clause-fault g c =
    let v = c.args.self.now in
    let x = context (g.V.Verifier.verifies v.verifier.now) v.at v.strict in
    let asked = g.R.RevocationSource.asks v.asked.now x in
    let e = c.in_err-cert-2.field-0.0 in
    let same : c.from_residual-in_err-cert-2.result ≡ Err e = search rules in
    let found = c.test_router-test.ensures.fault c.args.given.now c.in_ok-cert.ensures.ok in
    rw same (subst (λ (t : Result (Unit {0}) PathFault).
    IfErr t (Finds x (router_demand x asked c.args.issuer.now) c.args.given.now))
    c.in_err-cert-2.ensures.rejected found)
