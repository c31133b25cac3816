use Rattle.std.specs.Prelude.{Err}
use Rattle.std.proofs.Common.{rules, ◌≡◌, refl}
use Rattle.rpki_cert.specs.Verification.{context}
use Rattle.rpki_cert.specs.declared.validation_error.ValidationError.TheVariants.{Inspection}
use Rattle.rpki_issuing.specs.IssuingErrors.{error_of_validation}
use Rattle.rpki_issuing.specs.declared.issuing_error.IssuingError.TheVariants.{Invalid}
use Rattle.rpki_issuing.specs.declared.role.Role.TheVariants.{Anchor, Authority, EndEntity, Detached, Router}
use Rattle.rpki_issuing.proofs.SignatureAlone.{invalid_below, invalid_alone, passed_on}
use Rattle.rpki_issuing.proofs.role.Role.validate.Goals as goal

pub returns-in_err-inspect_ta-in-Anchor-clause-fault : goal.returns-in_err-inspect_ta-in-Anchor-clause-fault
returns-in_err-inspect_ta-in-Anchor-clause-fault g c =
    let x = context (g.V.Verifier.verifies c.args.verifier.now) c.args.now c.args.strict in
    let e = c.in_err-inspect_ta-in-Anchor.field-0.0 in
    let same : c.from_residual.result ≡ Err (Invalid (Inspection e)) = search rules in
    passed_on x c.args.self.now Anchor c.args.cert.now c.args.cert.now c.from_residual.result
    (Invalid (Inspection e)) same c.in-Anchor.is refl c.in_err-inspect_ta-in-Anchor.ensures.fault

pub returns-in_err-valid-in-Authority-clause-fault : goal.returns-in_err-valid-in-Authority-clause-fault
returns-in_err-valid-in-Authority-clause-fault g c =
    let x = context (g.V.Verifier.verifies c.args.verifier.now) c.args.now c.args.strict in
    let e = c.in_err-valid-in-Authority.field-0.0 in
    let told = Authority c.in-Authority.issuer in
    let copy = c.in_ok-copy-in-Authority.copy in
    let same : c.from_residual-in_err-valid-in-Authority.result ≡ Err (error_of_validation e) = search rules in
    passed_on x c.args.self.now told c.args.cert.now copy c.from_residual-in_err-valid-in-Authority.result
    (error_of_validation e) same c.in-Authority.is c.in_ok-copy-in-Authority.ensures
    (invalid_below x told copy e c.in_err-valid-in-Authority.ensures.fault)

pub returns-in_err-valid-in-EndEntity-clause-fault : goal.returns-in_err-valid-in-EndEntity-clause-fault
returns-in_err-valid-in-EndEntity-clause-fault g c =
    let x = context (g.V.Verifier.verifies c.args.verifier.now) c.args.now c.args.strict in
    let e = c.in_err-valid-in-EndEntity.field-0.0 in
    let told = EndEntity c.in-EndEntity.issuer in
    let copy = c.in_ok-copy-in-EndEntity.copy in
    let same : c.from_residual-in_err-valid-in-EndEntity.result ≡ Err (error_of_validation e) = search rules in
    passed_on x c.args.self.now told c.args.cert.now copy c.from_residual-in_err-valid-in-EndEntity.result
    (error_of_validation e) same c.in-EndEntity.is c.in_ok-copy-in-EndEntity.ensures
    (invalid_below x told copy e c.in_err-valid-in-EndEntity.ensures.fault)

pub returns-in_err-valid-in-Detached-clause-fault : goal.returns-in_err-valid-in-Detached-clause-fault
returns-in_err-valid-in-Detached-clause-fault g c =
    let x = context (g.V.Verifier.verifies c.args.verifier.now) c.args.now c.args.strict in
    let e = c.in_err-valid-in-Detached.field-0.0 in
    let told = Detached c.in-Detached.issuer in
    let copy = c.in_ok-copy-in-Detached.copy in
    let same : c.from_residual-in_err-valid-in-Detached.result ≡ Err (error_of_validation e) = search rules in
    passed_on x c.args.self.now told c.args.cert.now copy c.from_residual-in_err-valid-in-Detached.result
    (error_of_validation e) same c.in-Detached.is c.in_ok-copy-in-Detached.ensures
    (invalid_below x told copy e c.in_err-valid-in-Detached.ensures.fault)

pub returns-in_err-validate_router_at-in-Router-clause-fault : goal.returns-in_err-validate_router_at-in-Router-clause-fault
returns-in_err-validate_router_at-in-Router-clause-fault g c =
    let x = context (g.V.Verifier.verifies c.args.verifier.now) c.args.now c.args.strict in
    let e = c.in_err-validate_router_at-in-Router.field-0.0 in
    let told = Router c.in-Router.issuer in
    let cert = c.args.cert.now in
    let same : c.from_residual-in_err-validate_router_at-in-Router.result ≡ Err (error_of_validation e) =
    search rules in
    passed_on x c.args.self.now told cert cert c.from_residual-in_err-validate_router_at-in-Router.result
    (error_of_validation e) same c.in-Router.is refl
    (invalid_alone x told cert e c.in_err-validate_router_at-in-Router.ensures.fault)
