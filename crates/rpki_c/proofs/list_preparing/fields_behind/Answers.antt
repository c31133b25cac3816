use Rattle.std.specs.Prelude.{Err, option_map}
use Rattle.std.proofs.Common.{◌≡◌, Bor, Option, rules, subst, sym}
use Rattle.rpki_crl.specs.Lists.{CrlState, ListFields}
use Rattle.rpki_crl.specs.RevokedEntries.{Revoked}
use Rattle.rpki_issuing.specs.WantedLists.{IsListWanted}
use Rattle.rpki_c.specs.WantedAnswers.{unfit_of}
use Rattle.rpki_c.proofs.AnsweredLists.{before_lent, ungiven_fields, unwanted_fields}
use Rattle.rpki_c.proofs.list_preparing.fields_behind.Goals as goal

pub returns-in_err-wanted : goal.returns-in_err-wanted
returns-in_err-wanted c =
    let before = option_map (λ (l : Bor CrlState). l.now) c.args.previous in
    let e = c.in_err-wanted.field-0.0 in
    let same : c.from_residual.result ≡ Err e = search rules in
    rw same (ungiven_fields c.args.list.now c.args.terms c.args.issuer.now.cert.fields before e
    c.in_err-wanted.ensures.none)

pub returns : goal.returns
returns c = record {
  wanted = c.in_ok-wanted.wanted;
  given = c.in_ok-wanted.ensures.given;
  fields_are = subst (λ (o : Option (ListFields Revoked)). IsListWanted c.in_ok-wanted.wanted o
      c.args.issuer.now.cert.fields c.in_ok-fields.fields) (before_lent c.args.previous) c.in_ok-fields.ensures.wanted;
}

pub returns-in_err-fields : goal.returns-in_err-fields
returns-in_err-fields c =
    let before = option_map (λ (l : Bor CrlState). l.now) c.args.previous in
    let e = c.in_err-fields.field-0.0 in
    let same : c.from_residual-in_err-fields.result ≡ Err (unfit_of e) = search rules in
    rw same (unwanted_fields c.args.list.now c.args.terms c.args.issuer.now.cert.fields before
    c.in_ok-wanted.wanted c.in_ok-wanted.ensures.given e
    (λ apart f is. c.in_err-fields.ensures.refused apart f
    (subst (λ (o : Option (ListFields Revoked)). IsListWanted c.in_ok-wanted.wanted o
    c.args.issuer.now.cert.fields f) (sym (before_lent c.args.previous)) is)))
