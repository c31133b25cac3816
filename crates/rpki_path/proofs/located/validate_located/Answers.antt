use Rattle.std.proofs.Common.{rules, ◌≡◌, Err, IfErr, ℕ, List, subst}
use Rattle.rpki_cert.specs.Verification.{context}
use Rattle.rpki_path.specs.Asking.{by_uri}
use Rattle.rpki_path.specs.LocatedPaths.{IsLocatedFault, ValidatesFrom}
use Rattle.rpki_path.specs.Paths.{candidates}
use Rattle.rpki_path.specs.Paths.Steps.{IsUnread}
use Rattle.rpki_path.specs.declared.located.LocatedError.TheVariants.{Path as path}
use Rattle.rpki_path.proofs.LocatedPaths.{unread_anchor, located_headline}
use Rattle.rpki_path.proofs.located.validate_located.Goals as goal

pub returns-in_err-cert-clause-named : goal.returns-in_err-cert-clause-named
returns-in_err-cert-clause-named g c =
    let x = context (g.V.Verifier.verifies c.args.verifier.now) c.args.now c.args.strict in
    let e = c.in_err-cert.field-0.0 in
    let same : c.from_residual.result ≡ Err (path e) = search rules in
    let unread : IsUnread c.args.anchor.now e.fault = rw (c.in_err-cert.ensures.fault, c.of.ensures)
    at c.decoded.ensures.fault in
    rw same (unread_anchor x (by_uri x c.args.store.now.pairs) (candidates c.args.cas.now c.args.leaf)
    c.args.tal.now.tal c.args.anchor.now e c.in_err-cert.ensures.index unread)

pub returns-in_err-cert-clause-validates : goal.returns-in_err-cert-clause-validates
returns-in_err-cert-clause-validates g c =
    let x = context (g.V.Verifier.verifies c.args.verifier.now) c.args.now c.args.strict in
    let e = c.in_err-cert.field-0.0 in
    let same : c.from_residual.result ≡ Err (path e) = search rules in
    let unread : IsUnread c.args.anchor.now e.fault = rw (c.in_err-cert.ensures.fault, c.of.ensures)
    at c.decoded.ensures.fault in
    let below = candidates c.args.cas.now c.args.leaf in
    let named = unread_anchor x (by_uri x c.args.store.now.pairs) below c.args.tal.now.tal c.args.anchor.now e
    c.in_err-cert.ensures.index unread in
    rw same (located_headline x (by_uri x c.args.store.now.pairs) below c.unambiguous.ensures.certificate
    c.args.tal.now c.args.anchor.now (Err (path e)) tt named)

pub returns-clause-validates : goal.returns-clause-validates
returns-clause-validates g c =
    let x = context (g.V.Verifier.verifies c.args.verifier.now) c.args.now c.args.strict in
    let asked = by_uri x c.args.store.now.pairs in
    let below = candidates c.args.cas.now c.args.leaf in
    let answer = c.walked_from-answer in
    subst (λ (anchor : List ℕ). ValidatesFrom x asked c.args.tal.now anchor below answer.result) c.read_as.ensures
    (located_headline x asked below c.unambiguous.ensures.certificate c.args.tal.now c.read_as.result answer.result
    answer.ensures.ok answer.ensures.named)

pub returns-clause-named : goal.returns-clause-named
returns-clause-named g c =
    let x = context (g.V.Verifier.verifies c.args.verifier.now) c.args.now c.args.strict in
    let below = candidates c.args.cas.now c.args.leaf in
    let answer = c.walked_from-answer in
    subst (λ (anchor : List ℕ).
    IfErr answer.result (IsLocatedFault x (by_uri x c.args.store.now.pairs) c.args.tal.now.tal anchor below))
    c.read_as.ensures answer.ensures.named
