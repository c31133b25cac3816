use Rattle.std.proofs.Common.{ap, inl, inr, refl, subst, sym, ◌∙◌}
use Rattle.std.proofs.lemmas.Bool.{false≢true}
use Rattle.rpki_crl.specs.Lists.{IsTbsCertList, ListFields}
use Rattle.rpki_crl.specs.RevokedEntries.{Revoked}
use Rattle.rpki_issuing.specs.WantedLists.{IsListCompleted}
use Rattle.rpki_issuing.proofs.WholeOctets.{whole_only}
use Rattle.rpki_issuing.specs.declared.wanted.preparing.WantedError.{WantedError}
use Rattle.rpki_requests.specs.RefusedErrands.{IsListNamedOtherwise, IsListUnmade}
use Rattle.rpki_requests.specs.RequestWords.Views.{asked_fields}
use Rattle.rpki_requests.proofs.RefusalCases.{unfit_so}
use Rattle.rpki_requests.proofs.fulfilling.list_completed_below.Goals as goal

pub returns-then-not-is_list_named-clause-refused : goal.returns-then-not-is_list_named-clause-refused
returns-then-not-is_list_named-clause-refused c = λ not octets p.
    let same = whole_only IsTbsCertList c.unambiguous.ensures.data c.args.list.now p.fields c.args.prepared.now
    c.requires p.fields_are in
    false≢true (sym c.if-not-is_list_named.true ∙
    c.is_list_named.ensures.1 (ap (λ (f : ListFields Revoked). f.issuer) (sym same) ∙ p.named))

pub returns-in-Err-clause-refused : goal.returns-in-Err-clause-refused
returns-in-Err-clause-refused c = λ not octets p.
    let same = whole_only IsTbsCertList c.unambiguous.ensures.data c.args.list.now p.fields c.args.prepared.now
    c.requires p.fields_are in
    c.in-Err.ensures.refused (c.unfit.ensures.memory not) octets
    (subst (λ (f : ListFields Revoked). IsListCompleted c.args.at c.args.order.now.strict
    c.args.issuer.now.cert.fields f c.args.prepared.now c.args.signature.now octets) same p.completed)

pub returns-then-not-is_list_named-clause-so : goal.returns-then-not-is_list_named-clause-so
returns-then-not-is_list_named-clause-so c =
    let otherwise : IsListNamedOtherwise c.args.issuer.now.cert.fields c.args.prepared.now = record {
      fields = c.args.list.now;
      fields_are = c.requires;
      unnamed = λ named. false≢true (sym c.if-not-is_list_named.true ∙ c.is_list_named.ensures.1 named);
    } in
    inl (refl, otherwise)

pub returns-in-Err-clause-so : goal.returns-in-Err-clause-so
returns-in-Err-clause-so c =
    let Is : WantedError →
    Type 0 = IsListUnmade (asked_fields c.args.order.now) c.args.at c.args.issuer.now.cert.fields
    c.args.prepared.now c.args.signature.now in
    inr (unfit_so Is _ _ c.unfit.ensures.told
    (λ not. record {
      fields = c.args.list.now;
      fields_are = c.requires;
      named = c.is_list_named.ensures.0 c.if-not-is_list_named.false;
      uncompleted = c.in-Err.ensures.refused (c.unfit.ensures.memory not);
      reason = c.in-Err.ensures.told;
    }))
