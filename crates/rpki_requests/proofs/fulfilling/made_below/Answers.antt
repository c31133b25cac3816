use Rattle.std.specs.Prelude.{Err, Option, option_map}
use Rattle.std.proofs.Common.{◌≡◌, ℕ, List, Bor, inl, inr, refl, rules, sym, subst}
use Rattle.std.proofs.lemmas.Result.{err_from_is_err_and}
use Rattle.rpki_crl.specs.Lists.{IsTbsCertList, ListFields}
use Rattle.rpki_crl.specs.RevokedEntries.{Revoked}
use Rattle.rpki_cert.specs.Verification.{ResourceFields}
use Rattle.rpki_issuing.specs.OnlyValues.{IsOnly}
use Rattle.rpki_requests.specs.Fulfilment.{CompletesAs, CompletesListBelow, IsAcceptedMade, context_of}
use Rattle.rpki_requests.specs.declared.fulfilling.Made.TheVariants as made
use Rattle.rpki_requests.specs.RequestWords.Views.{asked_fields}
use Rattle.rpki_requests.specs.RefusedErrands.{IsMadeListFault, IsSoOfMadeList}
use Rattle.rpki_requests.specs.declared.refusals.Refusal.TheVariants.{NoIssuer}
use Rattle.rpki_requests.proofs.AskedLists.{none_as_certificate, none_as_list, none_without}
use Rattle.rpki_requests.proofs.fulfilling.made_below.Goals as goal

pub returns-in_err-octets-clause-refused : goal.returns-in_err-octets-clause-refused
returns-in_err-octets-clause-refused g c =
    let issuer = option_map (λ (r : Bor ResourceFields). r.now) c.args.issuer in
    let none : (f : ListFields Revoked) → IsTbsCertList f c.args.prepared.now →
    ⊥ = rw c.in_default.is at c.in_ok-list.ensures in
    let same : c.from_residual-in_err-octets.result ≡ Err c.in_err-octets.field-0.0 = search rules in
    rw same (λ not. none_as_certificate (asked_fields c.args.order.now) c.args.at c.args.path.now
    c.args.prepared.now c.args.signature.now
    (g.R.RevocationSource.asks c.args.source.now (context_of (asked_fields c.args.order.now) c.args.at)) none
    issuer (c.in_err-octets.ensures.refused not))

pub returns-in_default-issuer-clause-refused : goal.returns-in_default-issuer-clause-refused
returns-in_default-issuer-clause-refused g c = λ not given p.
    let asked = asked_fields c.args.order.now in
    let checks = g.R.RevocationSource.asks c.args.source.now (context_of asked c.args.at) in
    let prepared = c.args.prepared.now in
    let signature = c.args.signature.now in
    let found : IsOnly (λ (f : ListFields Revoked). IsTbsCertList f prepared) c.in-Some.list =
    rw c.in-Some.is at c.in_ok-list.ensures in
    none_without asked c.args.at c.args.path.now prepared signature c.in-Some.list found.0 checks given
    (subst (λ (o : Option (Bor ResourceFields)). CompletesAs asked c.args.path.now checks c.args.at
    (option_map (λ (r : Bor ResourceFields). r.now) o) prepared signature given) c.in_default-issuer.is p)

pub returns-in_err-octets-2-clause-refused : goal.returns-in_err-octets-2-clause-refused
returns-in_err-octets-2-clause-refused g c =
    let asked = asked_fields c.args.order.now in
    let checks = g.R.RevocationSource.asks c.args.source.now (context_of asked c.args.at) in
    let prepared = c.args.prepared.now in
    let signature = c.args.signature.now in
    let found : IsOnly (λ (f : ListFields Revoked). IsTbsCertList f prepared) c.in-Some.list =
    rw c.in-Some.is at c.in_ok-list.ensures in
    let same : c.from_residual-in_err-octets-2.result ≡ Err c.in_err-octets-2.field-0.0 = search rules in
    rw same (λ not given p. none_as_list asked c.args.at c.args.path.now prepared signature c.in-Some.list found.0
    checks c.in-Some-issuer.issuer.now
    (λ octets is. c.in_err-octets-2.ensures.refused not octets
    (subst (λ (l : List ℕ). CompletesListBelow asked c.args.at c.in-Some-issuer.issuer.now.cert.fields l
    signature octets) (sym c.deref.ensures) is)) given
    (subst (λ (o : Option (Bor ResourceFields)). CompletesAs asked c.args.path.now checks c.args.at
    (option_map (λ (r : Bor ResourceFields). r.now) o) prepared signature given) c.in-Some-issuer.is p))

pub returns-in_err-list-clause-so : goal.returns-in_err-list-clause-so
returns-in_err-list-clause-so g c =
    let gives = err_from_is_err_and c.from_residual.result c.from_residual.ensures.1 in
    rw (gives.1, gives.2) (inl refl)

pub returns-in_err-octets-clause-so : goal.returns-in_err-octets-clause-so
returns-in_err-octets-clause-so g c =
    let none : (f : ListFields Revoked) → IsTbsCertList f c.args.prepared.now →
    ⊥ = rw c.in_default.is at c.in_ok-list.ensures in
    let same : c.from_residual-in_err-octets.result ≡ Err c.in_err-octets.field-0.0 = search rules in
    rw same (inr (inr (λ list. none list.0 list.1, c.in_err-octets.ensures.so)))

pub returns-in_default-issuer-clause-so : goal.returns-in_default-issuer-clause-so
returns-in_default-issuer-clause-so g c =
    let prepared = c.args.prepared.now in
    let found : IsOnly (λ (f : ListFields Revoked). IsTbsCertList f prepared) c.in-Some.list =
    rw c.in-Some.is at c.in_ok-list.ensures in
    let asked = asked_fields c.args.order.now in
    let signature = c.args.signature.now in
    let so = subst (λ (o : Option (Bor ResourceFields)). IsSoOfMadeList asked c.args.at
    (option_map (λ (r : Bor ResourceFields). r.now) o) prepared signature NoIssuer)
    (sym c.in_default-issuer.is) refl in
    inr (inl ((c.in-Some.list, found.0), so))

pub returns-in_err-octets-2-clause-so : goal.returns-in_err-octets-2-clause-so
returns-in_err-octets-2-clause-so g c =
    let prepared = c.args.prepared.now in
    let why = c.in_err-octets-2.field-0.0 in
    let above = c.in-Some-issuer.issuer.now.cert.fields in
    let found : IsOnly (λ (f : ListFields Revoked). IsTbsCertList f prepared) c.in-Some.list =
    rw c.in-Some.is at c.in_ok-list.ensures in
    let asked = asked_fields c.args.order.now in
    let signature = c.args.signature.now in
    let fault = subst (λ (l : List ℕ). IsMadeListFault asked c.args.at above l signature why) c.deref.ensures
    c.in_err-octets-2.ensures.so in
    let so = subst (λ (o : Option (Bor ResourceFields)). IsSoOfMadeList asked c.args.at
    (option_map (λ (r : Bor ResourceFields). r.now) o) prepared signature why) (sym c.in-Some-issuer.is)
    fault in
    let same : c.from_residual-in_err-octets-2.result ≡ Err why = search rules in
    rw same (inr (inl ((c.in-Some.list, found.0), so)))

pub returns-in_default-clause-accepted : goal.returns-in_default-clause-accepted
returns-in_default-clause-accepted g c = c.in_ok-octets.ensures.accepted

pub returns-clause-accepted : goal.returns-clause-accepted
returns-clause-accepted g c =
    let x = context_of (asked_fields c.args.order.now) c.args.at in
    let checks = g.R.RevocationSource.asks c.args.source.now x in
    let octets = c.in_ok-octets-2.field-0 in
    subst (λ (o : Option (Bor ResourceFields)). IsAcceptedMade x checks
    (option_map (λ (r : Bor ResourceFields). r.now) o) (made.RevocationList octets)) (sym c.in-Some-issuer.is)
    (c.in-Some.list, c.in_ok-octets-2.ensures.accepted)
