use Rattle.std.specs.Prelude.{Err, option_map}
use Rattle.std.proofs.Common.{◌≡◌, ℕ, List, Bor, inl, inr, rules, sym, subst, ◌∙◌}
use Rattle.std.proofs.lemmas.Bool.{false≢true}
use Rattle.rpki_cert.specs.Certificates.{TbsFields}
use Rattle.rpki_cert.specs.Verification.{ResourceFields}
use Rattle.rpki_issuing.specs.PreparedOctets.{IsUncompleted}
use Rattle.rpki_issuing.specs.Readiness.{signed_with}
use Rattle.rpki_requests.specs.Fulfilment.{context_of}
use Rattle.rpki_requests.specs.RefusedErrands.{IsNamedOtherwise, IsUnmade}
use Rattle.rpki_requests.specs.RequestFiles.{IsCompletedAs}
use Rattle.rpki_requests.specs.RequestWords.Views.{asked_fields}
use Rattle.rpki_requests.proofs.OneFields.{one_completed, same_completed}
use Rattle.rpki_requests.proofs.RefusalCases.{data_pathless, unfit_so}
use Rattle.rpki_requests.proofs.fulfilling.completed_below.Goals as goal

pub returns-in-Err-clause-refused : goal.returns-in-Err-clause-refused
returns-in-Err-clause-refused g c = λ not octets p.
    let issuer = option_map (λ (r : Bor ResourceFields). r.now) c.args.issuer in
    let checks = g.R.RevocationSource.asks c.args.source.now (context_of (asked_fields c.args.order.now) c.args.at) in
    let same = c.in_ok-tbs.ensures.1 p.fields p.fields_are in
    let kinds = one_completed issuer c.in_ok-tbs.tbs p.kind c.completed_as-kind.result
    (subst (λ (f : TbsFields). IsCompletedAs issuer f p.kind) same p.kind_is) c.completed_as-kind.ensures in
    c.in-Err.ensures.refused (c.unfit.ensures.memory not) octets
    (same_completed issuer c.args.path.now checks c.args.at c.args.order.now.strict c.args.signature.now octets
    p.kind c.completed_as-kind.result p.fields c.in_ok-tbs.tbs c.args.prepared.now c.deref.result.now kinds
    same (sym c.deref.ensures) p.completed)

pub returns-in_err-tbs-clause-pathless : goal.returns-in_err-tbs-clause-pathless
returns-in_err-tbs-clause-pathless g c =
    let why = c.in_err-tbs.field-0.0 in
    let same : c.from_residual.result ≡ Err why = search rules in
    rw same (data_pathless c.args.prepared.now why c.in_err-tbs.ensures.0)

pub returns-in_err-tbs-clause-so : goal.returns-in_err-tbs-clause-so
returns-in_err-tbs-clause-so g c =
    let same : c.from_residual.result ≡ Err c.in_err-tbs.field-0.0 = search rules in
    rw same (inl c.in_err-tbs.ensures.0)

pub returns-then-not-is_named-clause-so : goal.returns-then-not-is_named-clause-so
returns-then-not-is_named-clause-so g c =
    let issuer = option_map (λ (r : Bor ResourceFields). r.now) c.args.issuer in
    let otherwise : IsNamedOtherwise issuer c.args.prepared.now = record {
      fields = c.in_ok-tbs.tbs;
      fields_are = c.in_ok-tbs.ensures.0;
      unnamed = λ named. false≢true (sym c.if-not-is_named.true ∙ c.is_named.ensures.1 named);
    } in
    inr (inl (c.named_otherwise.ensures.place, otherwise))

pub returns-in-Err-clause-so : goal.returns-in-Err-clause-so
returns-in-Err-clause-so g c =
    let issuer = option_map (λ (r : Bor ResourceFields). r.now) c.args.issuer in
    let asked = asked_fields c.args.order.now in
    let prepared = c.args.prepared.now in
    let signature = c.args.signature.now in
    let checks = g.R.RevocationSource.asks c.args.source.now (context_of asked c.args.at) in
    let told = subst (λ (l : List ℕ). IsUncompleted c.completed_as-kind.result issuer c.args.path.now checks
    c.args.at asked.strict c.in_ok-tbs.tbs l signature c.in-Err.error) c.deref.ensures
    c.in-Err.ensures.told in
    let unmade : IsUnmade asked c.args.path.now checks c.args.at issuer prepared signature c.in-Err.error = record {
      fields = c.in_ok-tbs.tbs;
      fields_are = c.in_ok-tbs.ensures.0;
      named = c.is_named.ensures.0 c.if-not-is_named.false;
      kind = c.completed_as-kind.result;
      kind_is = c.completed_as-kind.ensures;
      uncompleted = told;
    } in
    inr (inr (unfit_so (IsUnmade asked c.args.path.now checks c.args.at issuer prepared signature)
    _ _ c.unfit.ensures.told (λ not. unmade)))

pub returns-in-Ok-clause-accepted : goal.returns-in-Ok-clause-accepted
returns-in-Ok-clause-accepted g c = (
  c.completed_as-kind.result,
  record {
    cert = signed_with c.in_ok-tbs.tbs c.args.signature.now;
    is_certificate = c.in-Ok.ensures.read;
    usable = c.in_ok-tbs.ensures.0.usable;
    named = c.is_named.ensures.0 c.if-not-is_named.false;
    kind_is = c.completed_as-kind.ensures;
    accepted = c.in-Ok.ensures.accepted;
  },
)
