use Rattle.std.specs.Prelude.{Err}
use Rattle.std.proofs.Common.{◌≡◌, inl, inr, rules, subst}
use Rattle.rpki_crl.specs.Lists.{ListFields}
use Rattle.rpki_crl.specs.RevokedEntries.{Revoked}
use Rattle.rpki_issuing.specs.WantedLists.{IsListPrepared}
use Rattle.rpki_issuing.specs.declared.wanted.preparing.WantedError.{WantedError}
use Rattle.rpki_requests.specs.RefusedErrands.{IsListUnready}
use Rattle.rpki_requests.specs.RequestWords.Views.{asked_fields}
use Rattle.rpki_requests.proofs.RefusalCases.{list_pathless, unfit_so}
use Rattle.rpki_requests.proofs.fulfilling.list_prepared_below.Goals as goal

pub returns-in_err-list-clause-refused : goal.returns-in_err-list-clause-refused
returns-in_err-list-clause-refused c =
    let same : c.from_residual.result ≡ Err c.in_err-list.field-0.0 = search rules in
    rw same (λ not octets p. c.in_err-list.ensures.1 not p.fields p.asks)

pub returns-in-Err-clause-refused : goal.returns-in-Err-clause-refused
returns-in-Err-clause-refused c = λ not octets p.
    let same = c.in_ok-list.ensures.1 p.fields p.asks in
    c.in-Err.ensures.refused (c.unfit.ensures.memory not) octets
    (subst (λ (f : ListFields Revoked). IsListPrepared c.args.at c.args.order.now.strict
    c.args.issuer.now.cert.fields f octets) same p.prepared)

pub returns-in_err-list-clause-pathless : goal.returns-in_err-list-clause-pathless
returns-in_err-list-clause-pathless c =
    let why = c.in_err-list.field-0.0 in
    let same : c.from_residual.result ≡ Err why = search rules in
    rw same (list_pathless (asked_fields c.args.order.now).given c.args.inputs.now c.args.at
    c.args.issuer.now.cert.fields why c.in_err-list.ensures.0)

pub returns-in_err-list-clause-so : goal.returns-in_err-list-clause-so
returns-in_err-list-clause-so c =
    let same : c.from_residual.result ≡ Err c.in_err-list.field-0.0 = search rules in
    rw same (inl c.in_err-list.ensures.0)

pub returns-in-Err-clause-so : goal.returns-in-Err-clause-so
returns-in-Err-clause-so c =
    let Is : WantedError → Type 0 = IsListUnready (asked_fields c.args.order.now) c.args.inputs.now c.args.at
    c.args.issuer.now.cert.fields in
    inr (unfit_so Is _ _ c.unfit.ensures.told
    (λ not. record {
      fields = c.in_ok-list.list;
      asks = c.in_ok-list.ensures.0;
      unprepared = c.in-Err.ensures.refused (c.unfit.ensures.memory not);
      reason = c.in-Err.ensures.told;
    }))
