use Rattle.std.proofs.Common.{rules, ◌≡◌, ◌+◌, Some, Err, length, map, ap, ◌∙◌, arith, rc_value}
use Rattle.std.proofs.lemmas.List.{length-map}
use Rattle.rpki_cert.specs.declared.inspect.Kind.TheVariants.{Authority, EndEntity, Detached}
use Rattle.rpki_cert.specs.Verification.{context}
use Rattle.rpki_path.specs.declared.given.Last.{Last}
use Rattle.rpki_path.specs.declared.given.Last.TheVariants as last
use Rattle.rpki_path.specs.GivenPaths.{last_candidates}
use Rattle.rpki_path.specs.Paths.{candidate}
use Rattle.rpki_path.proofs.Rejections.{fault_of_more}
use Rattle.rpki_path.proofs.PathSteps.{leaf_accepted, leaf_wrong}
use Rattle.rpki_path.proofs.validator.Validator.members.Goals as goal

pub returns-in_err-issuer-clause-named : goal.returns-in_err-issuer-clause-named
returns-in_err-issuer-clause-named g c =
    let v = c.args.self.now in
    let x = context (g.V.Verifier.verifies v.verifier.now) v.at v.strict in
    let asked = g.R.RevocationSource.asks v.asked.now x in
    let e = c.in_err-issuer.field-0.0 in
    let same : c.from_residual.result ≡ Err e = search rules in
    rw same (fault_of_more x asked c.args.anchor.now (map (candidate Authority) c.args.cas.now)
    (last_candidates c.args.last) e c.in_err-issuer.ensures.named)

pub returns-in-Some-Ee-clause-ok : goal.returns-in-Some-Ee-clause-ok
returns-in-Some-Ee-clause-ok g c =
    let v = c.args.self.now in
    let x = context (g.V.Verifier.verifies v.verifier.now) v.at v.strict in
    let asked = g.R.RevocationSource.asks v.asked.now x in
    let end : c.args.last ≡ Some (last.Ee c.in-Some-Ee.end) = c.in-Some-Ee.is ∙
    ap (λ (l : Last). Some l) (rw c.in-Some-Ee.is at c.in-Some-Ee.field-0-is) in
    rw end (leaf_accepted x asked c.args.anchor.now (rc_value c.args.tal) (map (candidate Authority) c.args.cas.now)
    c.in_ok-issuer.issuer c.in_ok-issuer.ensures.ok EndEntity c.in-Some-Ee.end.now c.next.result
    c.next.ensures.ok)

pub returns-in-Some-Ee-clause-named : goal.returns-in-Some-Ee-clause-named
returns-in-Some-Ee-clause-named g c =
    let v = c.args.self.now in
    let x = context (g.V.Verifier.verifies v.verifier.now) v.at v.strict in
    let asked = g.R.RevocationSource.asks v.asked.now x in
    let end : c.args.last ≡ Some (last.Ee c.in-Some-Ee.end) = c.in-Some-Ee.is ∙
    ap (λ (l : Last). Some l) (rw c.in-Some-Ee.is at c.in-Some-Ee.field-0-is) in
    let cas = map (candidate Authority) c.args.cas.now in
    let index : length c.args.cas.now + 1 ≡ length cas + 1 =
    omega (arith, length-map c.args.cas.now (candidate Authority)) in
    rw end (leaf_wrong x asked c.args.anchor.now (rc_value c.args.tal) cas c.in_ok-issuer.issuer
    c.in_ok-issuer.ensures.ok EndEntity c.in-Some-Ee.end.now (length c.args.cas.now + 1) index c.next.result
    c.next.ensures.index c.next.ensures.fault)

pub returns-in-Some-DetachedEe-clause-ok : goal.returns-in-Some-DetachedEe-clause-ok
returns-in-Some-DetachedEe-clause-ok g c =
    let v = c.args.self.now in
    let x = context (g.V.Verifier.verifies v.verifier.now) v.at v.strict in
    let asked = g.R.RevocationSource.asks v.asked.now x in
    let end : c.args.last ≡ Some (last.DetachedEe c.in-Some-DetachedEe.end) = c.in-Some-DetachedEe.is ∙
    ap (λ (l : Last). Some l) (rw c.in-Some-DetachedEe.is at c.in-Some-DetachedEe.field-0-is) in
    rw end (leaf_accepted x asked c.args.anchor.now (rc_value c.args.tal) (map (candidate Authority) c.args.cas.now)
    c.in_ok-issuer.issuer c.in_ok-issuer.ensures.ok Detached c.in-Some-DetachedEe.end.now
    c.next-in-Some-DetachedEe.result c.next-in-Some-DetachedEe.ensures.ok)

pub returns-in-Some-DetachedEe-clause-named : goal.returns-in-Some-DetachedEe-clause-named
returns-in-Some-DetachedEe-clause-named g c =
    let v = c.args.self.now in
    let x = context (g.V.Verifier.verifies v.verifier.now) v.at v.strict in
    let asked = g.R.RevocationSource.asks v.asked.now x in
    let end : c.args.last ≡ Some (last.DetachedEe c.in-Some-DetachedEe.end) = c.in-Some-DetachedEe.is ∙
    ap (λ (l : Last). Some l) (rw c.in-Some-DetachedEe.is at c.in-Some-DetachedEe.field-0-is) in
    let cas = map (candidate Authority) c.args.cas.now in
    let index : length c.args.cas.now + 1 ≡ length cas + 1 =
    omega (arith, length-map c.args.cas.now (candidate Authority)) in
    rw end (leaf_wrong x asked c.args.anchor.now (rc_value c.args.tal) cas c.in_ok-issuer.issuer
    c.in_ok-issuer.ensures.ok Detached c.in-Some-DetachedEe.end.now (length c.args.cas.now + 1) index
    c.next-in-Some-DetachedEe.result c.next-in-Some-DetachedEe.ensures.index
    c.next-in-Some-DetachedEe.ensures.fault)
