use Rattle.std.proofs.Common.{ℕ, List, rc_value, subst}
use Rattle.rpki_cert.specs.Verification.{context}
use Rattle.rpki_path.specs.Asking.{by_uri}
use Rattle.rpki_path.specs.Paths.{candidates, Validates}
use Rattle.rpki_path.proofs.Headlines.{headline}
use Rattle.rpki_path.proofs.validating.validate_path_with.Goals as goal

pub returns-clause-validates : goal.returns-clause-validates
returns-clause-validates g c =
    let x = context (g.V.Verifier.verifies c.args.verifier.now) c.args.now c.args.strict in
    let asked = by_uri x c.args.store.now.pairs in
    let below = candidates c.args.cas.now c.args.leaf in
    subst (λ (anchor : List ℕ). Validates x asked anchor below (rc_value c.args.tal) c.walked.result) c.of.ensures
    (headline x asked c.unambiguous.ensures.certificate c.of.result below (rc_value c.args.tal) c.walked.result
    c.walked.ensures.ok c.walked.ensures.named)
