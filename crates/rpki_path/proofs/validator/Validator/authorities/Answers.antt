use Rattle.std.proofs.Common.{rules, ◌≡◌, Err, rc_value}
use Rattle.rpki_cert.specs.Verification.{context}
use Rattle.rpki_path.proofs.ValidPaths.{anchor_alone}
use Rattle.rpki_path.proofs.PathSteps.{next_authority, wrong_authority, whole}
use Rattle.rpki_path.proofs.validator.Validator.authorities.Goals as goal

pub loop-i-init : goal.loop-i-init
loop-i-init g c =
    let v = c.args.self.now in
    let x = context (g.V.Verifier.verifies v.verifier.now) v.at v.strict in
    let asked = g.R.RevocationSource.asks v.asked.now x in
    anchor_alone x asked c.args.anchor.now (rc_value c.args.tal) c.in_ok-issuer.issuer
    (rw c.in_ok-issuer.ensures.ok at c.trust_anchor.ensures.ok)

pub returns-in_err-issuer-2-clause-named : goal.returns-in_err-issuer-2-clause-named
returns-in_err-issuer-2-clause-named g c =
    let v = c.args.self.now in
    let x = context (g.V.Verifier.verifies v.verifier.now) v.at v.strict in
    let asked = g.R.RevocationSource.asks v.asked.now x in
    let e = c.in_err-issuer-2.field-0.0 in
    let same : c.from_residual-in_err-issuer-2.result ≡ Err e = search rules in
    rw same (wrong_authority x asked c.args.anchor.now (rc_value c.args.tal) c.args.cas.now c.loop-i.i
    c.loop-i-test.true c.index-cas-i.result c.index-cas-i.is c.loop-i.issuer c.loop-i.invariant e
    c.in_err-issuer-2.ensures.index c.in_err-issuer-2.ensures.fault)

pub loop-i-preserved : goal.loop-i-preserved
loop-i-preserved g c =
    let v = c.args.self.now in
    let x = context (g.V.Verifier.verifies v.verifier.now) v.at v.strict in
    let asked = g.R.RevocationSource.asks v.asked.now x in
    next_authority x asked c.args.anchor.now (rc_value c.args.tal) c.args.cas.now c.loop-i.i c.loop-i-test.true
    c.index-cas-i.result c.index-cas-i.is c.loop-i.issuer c.loop-i.invariant c.in_ok-issuer-2.issuer
    c.in_ok-issuer-2.ensures.ok

pub returns-clause-ok : goal.returns-clause-ok
returns-clause-ok g c =
    let v = c.args.self.now in
    let x = context (g.V.Verifier.verifies v.verifier.now) v.at v.strict in
    let asked = g.R.RevocationSource.asks v.asked.now x in
    whole x asked c.args.anchor.now (rc_value c.args.tal) c.args.cas.now c.loop-i.i c.loop-i-test.false
    c.loop-i.issuer c.loop-i.invariant
