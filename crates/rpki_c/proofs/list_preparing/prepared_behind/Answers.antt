use Rattle.std.specs.Prelude.{Err, option_map}
use Rattle.std.proofs.Common.{◌≡◌, Bor, rules}
use Rattle.rpki_crl.specs.Lists.{CrlState}
use Rattle.rpki_c.specs.WantedAnswers.{unfit_of}
use Rattle.rpki_c.proofs.AnsweredLists.{unlisted_behind, unready_behind}
use Rattle.rpki_c.proofs.list_preparing.prepared_behind.Goals as goal

pub returns-in_err-fields : goal.returns-in_err-fields
returns-in_err-fields c =
    let before = option_map (λ (l : Bor CrlState). l.now) c.args.previous in
    let e = c.in_err-fields.field-0.0 in
    let same : c.from_residual.result ≡ Err e = search rules in
    rw same (unlisted_behind c.args.list.now c.args.terms c.args.issuer.now.cert.fields before e
    c.in_err-fields.ensures)

pub returns : goal.returns
returns c = (c.in_ok-fields.fields, c.in_ok-fields.ensures, c.in_ok-octets.ensures.prepared)

pub returns-in_err-octets : goal.returns-in_err-octets
returns-in_err-octets c =
    let before = option_map (λ (l : Bor CrlState). l.now) c.args.previous in
    let e = c.in_err-octets.field-0.0 in
    let same : c.from_residual-in_err-octets.result ≡ Err (unfit_of e) = search rules in
    rw same (unready_behind c.args.list.now c.args.terms c.args.issuer.now.cert.fields before
    c.in_ok-fields.fields c.in_ok-fields.ensures e c.in_err-octets.ensures.refused)
