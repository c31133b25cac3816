use Rattle.rpki_cert.specs.Verification.{context}
use Rattle.rpki_path.specs.Asking.{nobody, by_uri}
use Rattle.rpki_path.proofs.Routers.{no_router_at, no_router_asked}
use Rattle.rpki_path.proofs.router.validate_router.Goals as goal

pub returns-in-Some-clause-ok : goal.returns-in-Some-clause-ok
returns-in-Some-clause-ok g c = rw c.in-Some.is c.test_router.ensures.ok

pub returns-in-Some-clause-fault : goal.returns-in-Some-clause-fault
returns-in-Some-clause-fault g c = rw c.in-Some.is c.test_router.ensures.fault

pub returns-in-Some-clause-rejected : goal.returns-in-Some-clause-rejected
returns-in-Some-clause-rejected g c =
    let x = context (g.V.Verifier.verifies c.args.verifier.now) c.args.now c.args.strict in
    rw c.in-Some.is (no_router_at x (by_uri x c.in-Some.store.now.pairs) c.args.issuer.now
    c.unambiguous.ensures.certificate c.args.octets.now c.test_router.result c.test_router.ensures.fault)

pub returns-in-None-clause-ok : goal.returns-in-None-clause-ok
returns-in-None-clause-ok g c = rw c.in-None.is c.test_router-in-None.ensures.ok

pub returns-in-None-clause-fault : goal.returns-in-None-clause-fault
returns-in-None-clause-fault g c = rw c.in-None.is c.test_router-in-None.ensures.fault

pub returns-in-None-clause-rejected : goal.returns-in-None-clause-rejected
returns-in-None-clause-rejected g c =
    let x = context (g.V.Verifier.verifies c.args.verifier.now) c.args.now c.args.strict in
    rw c.in-None.is (no_router_at x nobody c.args.issuer.now c.unambiguous.ensures.certificate c.args.octets.now
    c.test_router-in-None.result c.test_router-in-None.ensures.fault)

pub returns-in-None-clause-unasked : goal.returns-in-None-clause-unasked
returns-in-None-clause-unasked g c =
    let x = context (g.V.Verifier.verifies c.args.verifier.now) c.args.now c.args.strict in
    rw c.in-None.is (no_router_asked x c.args.issuer.now c.args.octets.now c.test_router-in-None.result
    c.test_router-in-None.ensures.fault)
