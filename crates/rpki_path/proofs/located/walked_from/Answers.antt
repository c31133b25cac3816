use Rattle.std.proofs.Common.{rules, ◌≡◌, Err}
use Rattle.rpki_cert.specs.Verification.{context}
use Rattle.rpki_path.specs.LocatedPaths.{BeginsWithAnchor}
use Rattle.rpki_path.specs.Paths.{candidates}
use Rattle.rpki_path.specs.declared.located.LocatedError.TheVariants.{Path as path}
use Rattle.rpki_path.proofs.LocatedPaths.{anchor_fault, below_anchor}
use Rattle.rpki_path.proofs.located.walked_from.Goals as goal

pub returns-in_err-test_anchor-clause-named : goal.returns-in_err-test_anchor-clause-named
returns-in_err-test_anchor-clause-named g c =
    let v = c.args.validator.now in
    let x = context (g.V.Verifier.verifies v.verifier.now) v.at v.strict in
    let asked = g.R.RevocationSource.asks v.asked.now x in
    let e = c.in_err-test_anchor.field-0.0 in
    let same : c.from_residual.result ≡ Err e = search rules in
    rw same (anchor_fault x asked (candidates c.args.cas.now c.args.leaf.now) c.args.tal.now.tal c.args.anchor.now e
    c.in_err-test_anchor.ensures.fault)

pub returns-in_err-walked-clause-named : goal.returns-in_err-walked-clause-named
returns-in_err-walked-clause-named g c =
    let v = c.args.validator.now in
    let x = context (g.V.Verifier.verifies v.verifier.now) v.at v.strict in
    let asked = g.R.RevocationSource.asks v.asked.now x in
    let e = c.in_err-walked.field-0.0 in
    let same : c.from_residual-in_err-walked.result ≡ Err (path e) = search rules in
    let anchor : BeginsWithAnchor c.args.tal.now.tal c.args.anchor.now = search rules in
    rw same (below_anchor x asked (candidates c.args.cas.now c.args.leaf.now) c.unambiguous.ensures.certificate
    c.args.tal.now.tal c.args.anchor.now anchor e c.in_err-walked.ensures.named)
