use Rattle.std.specs.Prelude.{Err, option_map}
use Rattle.std.proofs.Common.{◌≡◌, Bor, inl, inr, rules, subst}
use Rattle.rpki_cert.specs.Certificates.{TbsFields}
use Rattle.rpki_cert.specs.Verification.{ResourceFields}
use Rattle.rpki_issuing.specs.PreparedOctets.{IsPrepared}
use Rattle.rpki_files.specs.Files.{contents}
use Rattle.rpki_requests.specs.Fulfilment.{context_of}
use Rattle.rpki_requests.specs.RefusedErrands.{AreUnready}
use Rattle.rpki_requests.specs.RequestWords.Views.{asked_fields}
use Rattle.rpki_requests.proofs.RefusalCases.{fields_pathless, unfit_so}
use Rattle.rpki_requests.proofs.fulfilling.prepared_below.Goals as goal

pub returns-in_err-tbs-clause-refused : goal.returns-in_err-tbs-clause-refused
returns-in_err-tbs-clause-refused g c =
    let same : c.from_residual.result ≡ Err c.in_err-tbs.field-0.0 = search rules in
    rw same (λ not octets p. c.in_err-tbs.ensures.1 not p.fields p.asks)

pub returns-in-Err-clause-refused : goal.returns-in-Err-clause-refused
returns-in-Err-clause-refused g c = λ not octets p.
    let issuer = option_map (λ (r : Bor ResourceFields). r.now) c.args.issuer in
    let checks = g.R.RevocationSource.asks c.args.source.now (context_of (asked_fields c.args.order.now) c.args.at) in
    let same = c.in_ok-tbs.ensures.1 p.fields p.asks in
    c.in-Err.ensures.refused (c.unfit.ensures.memory not) octets
    (subst (λ (f : TbsFields). IsPrepared c.args.kind issuer c.args.path.now checks c.args.at
    c.args.order.now.strict f octets) same p.prepared)

pub returns-in_err-tbs-clause-pathless : goal.returns-in_err-tbs-clause-pathless
returns-in_err-tbs-clause-pathless g c =
    let why = c.in_err-tbs.field-0.0 in
    let same : c.from_residual.result ≡ Err why = search rules in
    rw same (fields_pathless c.args.kind (asked_fields c.args.order.now).given (contents c.args.keys.now) why
    c.in_err-tbs.ensures.0)

pub returns-in_err-tbs-clause-so : goal.returns-in_err-tbs-clause-so
returns-in_err-tbs-clause-so g c =
    let same : c.from_residual.result ≡ Err c.in_err-tbs.field-0.0 = search rules in
    rw same (inl c.in_err-tbs.ensures.0)

pub returns-in-Err-clause-so : goal.returns-in-Err-clause-so
returns-in-Err-clause-so g c =
    let issuer = option_map (λ (r : Bor ResourceFields). r.now) c.args.issuer in
    let checks = g.R.RevocationSource.asks c.args.source.now (context_of (asked_fields c.args.order.now) c.args.at) in
    let Is = AreUnready c.args.kind (asked_fields c.args.order.now) (contents c.args.keys.now) c.args.path.now
    checks c.args.at issuer in
    inr (unfit_so Is _ _ c.unfit.ensures.told
    (λ not. record {
      fields = c.in_ok-tbs.tbs;
      asks = c.in_ok-tbs.ensures.0;
      unprepared =
          c.in-Err.ensures.told;
    }))
