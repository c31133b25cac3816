use Rattle.std.specs.Prelude.{Err, option_map}
use Rattle.std.proofs.Common.{◌≡◌, Bor, Option, rules, subst}
use Rattle.rpki_cert.specs.Verification.{ResourceFields}
use Rattle.rpki_issuing.specs.PreparedOctets.{IsPrepared, IsUnprepared}
use Rattle.rpki_c.specs.Verdicts.{checks_by, asked_context}
use Rattle.rpki_c.specs.WantedAnswers.{AnswersFields, WantsFields, unfit_of}
use Rattle.rpki_c.specs.declared.judging.Accepted.{Accepted}
use Rattle.rpki_c.proofs.AnsweredWants.{fields_below, three_same, unfit_below}
use Rattle.rpki_c.proofs.Unread.{passed_on}
use Rattle.rpki_c.proofs.preparing.prepared_below.Goals as goal

pub returns-in_err-tbs : goal.returns-in_err-tbs
returns-in_err-tbs c =
    let w = c.args.w.now in
    let t = c.args.terms in
    let above = option_map (λ (a : Bor Accepted). a.now) c.args.above in
    let e = c.in_err-tbs.field-0.0 in
    let same : c.from_residual.result ≡ Err e = search rules in
    rw same (fields_below w t above e
    (subst (λ (i : Option ResourceFields). AnswersFields w t i (Err e)) c.holder_above-issuer.ensures
    c.in_err-tbs.ensures))

pub returns : goal.returns
returns c =
    let w = c.args.w.now in
    let t = c.args.terms in
    let f = c.in_ok-tbs.tbs in
    let octets = c.in_ok-octets.octets in (
      f,
      subst (λ (i : Option ResourceFields). WantsFields w t i f) c.holder_above-issuer.ensures c.in_ok-tbs.ensures,
      three_same (λ i p a. IsPrepared t.kind i p
          (checks_by a (asked_context t.asked)) t.asked.now t.asked.strict f octets)
          c.holder_above-issuer.ensures c.strings_above-path.ensures c.asked_above-source.ensures
          c.in_ok-octets.ensures.prepared,
    )

pub returns-in_err-octets : goal.returns-in_err-octets
returns-in_err-octets c =
    let w = c.args.w.now in
    let t = c.args.terms in
    let above = option_map (λ (a : Bor Accepted). a.now) c.args.above in
    let f = c.in_ok-tbs.tbs in
    let e = c.in_err-octets.field-0.0 in
    let same : c.from_residual-in_err-octets.result ≡ Err
    (unfit_of e) = passed_on _ _ c.from_residual-in_err-octets.ensures.1 in
    rw same
    (unfit_below w t above f
    (subst (λ (i : Option ResourceFields). WantsFields w t i f) c.holder_above-issuer.ensures c.in_ok-tbs.ensures) e
    (three_same (λ i p a. IsUnprepared t.kind i p (checks_by a (asked_context t.asked)) t.asked.now t.asked.strict f e)
    c.holder_above-issuer.ensures c.strings_above-path.ensures c.asked_above-source.ensures
    c.in_err-octets.ensures.told))
