use Rattle.std.specs.Prelude.{Some, Result}
use Rattle.std.proofs.Common.{rules, ◌≡◌, ◌+◌, ◌<◌, ℕ, List, length, Err, IfErr, ap, subst, ◌∙◌, arith}
use Rattle.rpki_cert.specs.Certificates.{CertFields}
use Rattle.rpki_cert.specs.Verification.{context}
use Rattle.rpki_path.specs.declared.given.Last.{Last}
use Rattle.rpki_path.specs.declared.given.Last.TheVariants as last
use Rattle.rpki_path.specs.declared.path_fault.PathFault.{PathFault}
use Rattle.rpki_path.specs.GivenPaths.{PathStrings, path_strings, members_below, last_router, string_count}
use Rattle.rpki_path.specs.Judging.{Judges}
use Rattle.rpki_path.specs.Paths.{Finds, IsAccepted}
use Rattle.rpki_path.specs.Routers.{router_demand}
use Rattle.rpki_path.proofs.GivenPaths.{router_alone}
use Rattle.rpki_path.proofs.Verdicts.{wrong_above, wrong_below, place_above, place_below}
use Rattle.rpki_path.proofs.judging.verdict.Goals as goal

pub returns-in_err-holder-clause-judges : goal.returns-in_err-holder-clause-judges
returns-in_err-holder-clause-judges g c =
    let v = c.args.validator.now in
    let x = context (g.V.Verifier.verifies v.verifier.now) v.at v.strict in
    let asked = g.R.RevocationSource.asks v.asked.now x in
    let p = c.path.inside in
    let strings = path_strings p.anchor.now p.cas.now p.last in
    let e = c.in_err-holder.field-0.0 in
    let same : c.from_residual.result ≡ Err e = search rules in
    rw same (subst (λ (s : PathStrings). Judges x asked s (Err e)) c.path.view_is
    (wrong_above x asked strings c.unambiguous.ensures.certificate e c.in_err-holder.ensures.named))

pub returns-in_err-holder-clause-place : goal.returns-in_err-holder-clause-place
returns-in_err-holder-clause-place g c =
    let v = c.args.validator.now in
    let x = context (g.V.Verifier.verifies v.verifier.now) v.at v.strict in
    let asked = g.R.RevocationSource.asks v.asked.now x in
    let p = c.path.inside in
    let strings = path_strings p.anchor.now p.cas.now p.last in
    let e = c.in_err-holder.field-0.0 in
    let same : c.from_residual.result ≡ Err e = search rules in
    rw same (subst (λ (s : PathStrings). e.index < string_count s) c.path.view_is
    (place_above x asked strings e c.in_err-holder.ensures.named))

pub returns-in_err-holder-in-Some-Router-clause-judges : goal.returns-in_err-holder-in-Some-Router-clause-judges
returns-in_err-holder-in-Some-Router-clause-judges g c =
    let v = c.args.validator.now in
    let x = context (g.V.Verifier.verifies v.verifier.now) v.at v.strict in
    let asked = g.R.RevocationSource.asks v.asked.now x in
    let p = c.path.inside in
    let strings = path_strings p.anchor.now p.cas.now p.last in
    let octets = c.in-Some-Router.end.now in
    let e = c.in_err-holder-in-Some-Router.field-0.0 in
    let same : c.from_residual-in_err-holder-in-Some-Router.result ≡ Err e = search rules in
    let ends : p.last ≡ Some (last.Router c.in-Some-Router.end) = c.in-Some-Router.is ∙
    ap (λ (l : Last). Some l) (rw c.in-Some-Router.is at c.in-Some-Router.field-0-is) in
    let router : last_router p.last ≡ Some octets = ap last_router ends in
    let holder = c.in_ok-holder.holder in
    let accepted = subst (λ (tal : List ℕ). IsAccepted x asked p.anchor.now (members_below p.cas.now p.last) tal
    holder) c.requires c.in_ok-holder.ensures.ok in
    let placed = c.in_err-holder-in-Some-Router.ensures.rejected in
    let at = rw placed at c.placed-found.ensures.index in
    let fault : c.router.result ≡ Err e.fault = rw placed at c.placed-found.ensures.fault in
    let found = subst (λ (t : Result CertFields PathFault). IfErr t (Finds x (router_demand x asked holder) octets))
    fault c.router.ensures.fault in
    let count = router_alone p.cas.now p.last octets router in
    let index : e.index ≡ length (members_below p.cas.now p.last) + 1 = omega (arith, at, count) in
    rw same (subst (λ (s : PathStrings). Judges x asked s (Err e)) c.path.view_is
    (wrong_below x asked strings c.unambiguous.ensures.certificate octets router holder accepted e index
    found))

pub returns-in_err-holder-in-Some-Router-clause-place : goal.returns-in_err-holder-in-Some-Router-clause-place
returns-in_err-holder-in-Some-Router-clause-place g c =
    let p = c.path.inside in
    let strings = path_strings p.anchor.now p.cas.now p.last in
    let octets = c.in-Some-Router.end.now in
    let e = c.in_err-holder-in-Some-Router.field-0.0 in
    let same : c.from_residual-in_err-holder-in-Some-Router.result ≡ Err e = search rules in
    let ends : p.last ≡ Some (last.Router c.in-Some-Router.end) = c.in-Some-Router.is ∙
    ap (λ (l : Last). Some l) (rw c.in-Some-Router.is at c.in-Some-Router.field-0-is) in
    let router : last_router p.last ≡ Some octets = ap last_router ends in
    let at = rw c.in_err-holder-in-Some-Router.ensures.rejected at c.placed-found.ensures.index in
    let count = router_alone p.cas.now p.last octets router in
    let index : e.index ≡ length (members_below p.cas.now p.last) + 1 = omega (arith, at, count) in
    rw same (subst (λ (s : PathStrings). e.index < string_count s) c.path.view_is
    (place_below strings octets router e.index index))
