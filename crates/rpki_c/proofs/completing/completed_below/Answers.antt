use Rattle.std.specs.Prelude.{Err, Ok, option_map}
use Rattle.std.proofs.Common.{◌≡◌, Bor, Option, rules, subst}
use Rattle.rpki_cert.specs.Verification.{ResourceFields}
use Rattle.rpki_issuing.specs.Acceptance.{IsAcceptedBelow}
use Rattle.rpki_issuing.specs.PreparedOctets.{IsCompleted, IsUncompleted}
use Rattle.rpki_c.specs.Verdicts.{checks_by, asked_context}
use Rattle.rpki_c.specs.WantedAnswers.{AnswersSigned, unfit_of}
use Rattle.rpki_c.specs.declared.judging.Accepted.{Accepted}
use Rattle.rpki_c.proofs.AnsweredWants.{signed_below, three_same, unfit_completed}
use Rattle.rpki_c.proofs.Unread.{passed_on}
use Rattle.rpki_c.proofs.completing.completed_below.Goals as goal

pub returns-in_err-tbs : goal.returns-in_err-tbs
returns-in_err-tbs c =
    let above = option_map (λ (a : Bor Accepted). a.now) c.args.above in
    let prepared = c.args.completion.now.prepared.now in
    let e = c.in_err-tbs.field-0.0 in
    let same : c.from_residual.result ≡ Err e = search rules in
    rw same (signed_below c.args.completion.now c.args.terms above e
    (subst (λ (i : Option ResourceFields). AnswersSigned i prepared (Err e)) c.holder_above-issuer.ensures
    c.in_err-tbs.ensures))

pub returns : goal.returns
returns c =
    let t = c.args.terms in
    let it = c.args.completion.now in
    let f = c.in_ok-tbs.tbs in
    let octets = c.in_ok-octets.octets in
    let signed = subst (λ (i : Option ResourceFields). AnswersSigned i it.prepared.now (Ok f))
    c.holder_above-issuer.ensures c.in_ok-tbs.ensures in
    let x = asked_context t.asked in (
      f,
      signed.0,
      signed.1,
      three_same (λ i p a. IsCompleted t.kind i p (checks_by a x) t.asked.now t.asked.strict f it.prepared.now
          it.signature.now octets)
          c.holder_above-issuer.ensures c.strings_above-path.ensures c.asked_above-source.ensures
          c.in_ok-octets.ensures.completed,
      three_same (λ i p a. IsAcceptedBelow x (checks_by a x) t.kind i octets)
          c.holder_above-issuer.ensures c.strings_above-path.ensures c.asked_above-source.ensures
          c.in_ok-octets.ensures.accepted,
    )

pub returns-in_err-octets : goal.returns-in_err-octets
returns-in_err-octets c =
    let t = c.args.terms in
    let it = c.args.completion.now in
    let above = option_map (λ (a : Bor Accepted). a.now) c.args.above in
    let f = c.in_ok-tbs.tbs in
    let signed = subst (λ (i : Option ResourceFields). AnswersSigned i it.prepared.now (Ok f))
    c.holder_above-issuer.ensures c.in_ok-tbs.ensures in
    let e = c.in_err-octets.field-0.0 in
    let same : c.from_residual-in_err-octets.result ≡ Err (unfit_of e) =
    passed_on _ _ c.from_residual-in_err-octets.ensures.1 in
    rw same
    (unfit_completed it t above f signed.0 signed.1 e
    (three_same (λ i p a. IsUncompleted t.kind i p (checks_by a (asked_context t.asked)) t.asked.now t.asked.strict f
    it.prepared.now it.signature.now e)
    c.holder_above-issuer.ensures c.strings_above-path.ensures c.asked_above-source.ensures
    c.in_err-octets.ensures.told))
