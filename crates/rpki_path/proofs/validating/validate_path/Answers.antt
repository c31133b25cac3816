use Rattle.std.proofs.Common.{ℕ, List, rc_value, subst}
use Rattle.rpki_cert.specs.Verification.{context}
use Rattle.rpki_path.specs.Asking.{nobody}
use Rattle.rpki_path.specs.Paths.{candidates, Validates}
use Rattle.rpki_path.proofs.Headlines.{headline, never_asked}
use Rattle.rpki_path.proofs.validating.validate_path.Goals as goal

pub returns-clause-validates : goal.returns-clause-validates
returns-clause-validates g c =
    let x = context (g.V.Verifier.verifies c.args.verifier.now) c.args.now c.args.strict in
    let below = candidates c.args.cas.now c.args.leaf in
    subst (λ (anchor : List ℕ). Validates x nobody anchor below (rc_value c.args.tal) c.walked.result) c.of.ensures
    (headline x nobody c.unambiguous.ensures.certificate c.of.result below (rc_value c.args.tal) c.walked.result
    c.walked.ensures.ok c.walked.ensures.named)

pub returns-clause-unasked : goal.returns-clause-unasked
returns-clause-unasked g c =
    let x = context (g.V.Verifier.verifies c.args.verifier.now) c.args.now c.args.strict in
    never_asked x c.of.result (candidates c.args.cas.now c.args.leaf) c.walked.result c.walked.ensures.named
