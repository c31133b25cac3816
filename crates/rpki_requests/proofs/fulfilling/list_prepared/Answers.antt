use Rattle.std.specs.Prelude.{Err, Some, None, Option}
use Rattle.std.proofs.Common.{◌≡◌, inl, inr, refl, rules, subst}
use Rattle.rpki_cert.specs.Verification.{ResourceFields}
use Rattle.rpki_requests.specs.Fulfilment.{PreparesList, context_of}
use Rattle.rpki_requests.specs.RequestFiles.{AreOneIssuer, IsRequestIssuer}
use Rattle.rpki_requests.specs.RequestWords.Views.{asked_fields}
use Rattle.rpki_requests.proofs.AskedLists.{list_prepares_moved, none_to_sign}
use Rattle.rpki_requests.proofs.fulfilling.list_prepared.Goals as goal

pub returns-in_err-issuer-clause-refused : goal.returns-in_err-issuer-clause-refused
returns-in_err-issuer-clause-refused c =
    let same : c.from_residual.result ≡ Err c.in_err-issuer.field-0.0 = search rules in
    rw same (λ not. none_to_sign (PreparesList (asked_fields c.args.order.now) c.args.inputs.now c.args.at)
    (λ octets p. c.in_err-issuer.ensures.none not (Some p.issuer) p.issuer_is))

pub returns-in_default-clause-refused : goal.returns-in_default-clause-refused
returns-in_default-clause-refused c =
    λ not. none_to_sign (PreparesList (asked_fields c.args.order.now) c.args.inputs.now c.args.at) (λ octets p.
    subst (λ (o : Option ResourceFields). AreOneIssuer (Some p.issuer) o) c.in_default.is
    (c.in_ok-issuer.ensures.only (Some p.issuer) p.issuer_is))

pub returns-in_err-octets-clause-refused : goal.returns-in_err-octets-clause-refused
returns-in_err-octets-clause-refused c =
    let asked = asked_fields c.args.order.now in
    let same : c.from_residual-in_err-octets.result ≡ Err c.in_err-octets.field-0.0 = search rules in
    rw same (λ not. none_to_sign (PreparesList asked c.args.inputs.now c.args.at) (λ octets p.
    let one = subst (λ (o : Option ResourceFields). AreOneIssuer (Some p.issuer) o) c.in-Some.is
    (c.in_ok-issuer.ensures.only (Some p.issuer) p.issuer_is) in
    c.in_err-octets.ensures.refused not octets
    (list_prepares_moved asked c.args.at c.args.inputs.now p.issuer c.in-Some.issuer one octets p.prepares)))

pub returns-in_err-issuer-clause-so : goal.returns-in_err-issuer-clause-so
returns-in_err-issuer-clause-so c =
    let same : c.from_residual.result ≡ Err c.in_err-issuer.field-0.0 = search rules in
    rw same (inl c.in_err-issuer.ensures.of_path)

pub returns-in_default-clause-so : goal.returns-in_default-clause-so
returns-in_default-clause-so c =
    let x = context_of (asked_fields c.args.order.now) c.args.at in
    let inputs = c.args.inputs.now in
    let none = subst (λ (o : Option ResourceFields). IsRequestIssuer x inputs.issuers inputs.lists o) c.in_default.is
    c.in_ok-issuer.ensures.issuer in
    inr (record { issuer = None; issuer_is = none; is_so = refl })

pub returns-in_err-octets-clause-so : goal.returns-in_err-octets-clause-so
returns-in_err-octets-clause-so c =
    let x = context_of (asked_fields c.args.order.now) c.args.at in
    let inputs = c.args.inputs.now in
    let one = subst (λ (o : Option ResourceFields). IsRequestIssuer x inputs.issuers inputs.lists o) c.in-Some.is
    c.in_ok-issuer.ensures.issuer in
    let same : c.from_residual-in_err-octets.result ≡ Err c.in_err-octets.field-0.0 = search rules in
    rw same (inr (record { issuer = Some c.in-Some.issuer; issuer_is = one; is_so = c.in_err-octets.ensures.so }))
