use Rattle.std.specs.Prelude.{Err, Ok}
use Rattle.std.proofs.Common.{◌≡◌, rules, subst}
use Rattle.rpki_cert.specs.Certificates.{TbsFields}
use Rattle.rpki_c.specs.ListAnswers.{AnswersListNamed}
use Rattle.rpki_c.specs.WantedAnswers.{unfit_of}
use Rattle.rpki_c.proofs.AnsweredLists.{named_list_below, unfit_list}
use Rattle.rpki_c.proofs.list_completing.completed_below.Goals as goal

pub returns-in_err-list : goal.returns-in_err-list
returns-in_err-list c =
    let above = c.args.issuer.now.cert.fields in
    let prepared = c.args.completion.now.prepared.now in
    let e = c.in_err-list.field-0.0 in
    let issuer : c.as_tbs.result.now ≡ above = search rules in
    let same : c.from_residual.result ≡ Err e = search rules in
    rw same (named_list_below c.args.completion.now c.args.terms above e
    (subst (λ (i : TbsFields). AnswersListNamed i prepared (Err e)) issuer c.in_err-list.ensures))

pub returns : goal.returns
returns c =
    let issuer : c.as_tbs.result.now ≡ c.args.issuer.now.cert.fields = search rules in
    let named = subst (λ (i : TbsFields). AnswersListNamed i c.args.completion.now.prepared.now
    (Ok c.in_ok-list.list)) issuer c.in_ok-list.ensures in
    (c.in_ok-list.list, named.0, named.1, c.in_ok-octets.ensures.completed, c.in_ok-octets.ensures.answers)

pub returns-in_err-octets : goal.returns-in_err-octets
returns-in_err-octets c =
    let above = c.args.issuer.now.cert.fields in
    let issuer : c.as_tbs.result.now ≡ above = search rules in
    let named = subst (λ (i : TbsFields). AnswersListNamed i c.args.completion.now.prepared.now
    (Ok c.in_ok-list.list)) issuer c.in_ok-list.ensures in
    let e = c.in_err-octets.field-0.0 in
    let same : c.from_residual-in_err-octets.result ≡ Err (unfit_of e) = search rules in
    rw same (unfit_list c.args.completion.now c.args.terms above c.in_ok-list.list named.0 named.1 e
    c.in_err-octets.ensures.refused)
