use Rattle.std.specs.Prelude.{Err}
use Rattle.std.proofs.Common.{◌≡◌, Option, inl, inr, refl, rules, subst}
use Rattle.rpki_crl.specs.Lists.{CrlState}
use Rattle.rpki_c.specs.ListAnswers.{AnswersBehind}
use Rattle.rpki_c.proofs.list_preparing.prepared_below.Goals as goal

pub returns-in_err-previous : goal.returns-in_err-previous
returns-in_err-previous c =
    let e = c.in_err-previous.field-0.0 in
    let same : c.from_residual.result ≡ Err e = search rules in
    rw same (inl (e, refl, c.in_err-previous.ensures.other))

pub returns : goal.returns
returns c =
    inr (
      c.in_ok-previous.previous,
      c.in_ok-previous.ensures.previous,
      subst (λ (o : Option CrlState). AnswersBehind c.args.list.now c.args.terms c.args.issuer.now.cert.fields o
          c.prepared_behind.result) c.as_ref.ensures.value c.prepared_behind.ensures,
    )
