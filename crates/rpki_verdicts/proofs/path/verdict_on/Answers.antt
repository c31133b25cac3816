use Rattle.std.proofs.Common.{◌≡◌, ◌+◌, ◌-◌, ℕ, List, length, inl, inr, sym, ap, subst, ◌∙◌, arith}
use Rattle.std.proofs.lemmas.Bool.{false≢true}
use Rattle.rpki_path.specs.GivenPaths.{PathStrings}
use Rattle.rpki_path.specs.Judging.{IsAcceptedWith}
use Rattle.rpki_keys.specs.RsaSignatures.{IsSignedByRsa}
use Rattle.rpki_cert.specs.Verification.{context}
use Rattle.rpki_files.specs.Contents.{BeginsWithCertificate}
use Rattle.rpki_files.specs.Files.{contents}
use Rattle.rpki_path.proofs.UnchainedNames.{accepted_begin}
use Rattle.rpki_verdicts.specs.PathFiles.{QuestionFields, IsGivenBy, demands_of}
use Rattle.rpki_verdicts.specs.PathAnswers.{IsReasonAt, IsVerdictOn}
use Rattle.rpki_verdicts.specs.PathAnswers.Steps.{IsNamedVerdict}
use Rattle.rpki_verdicts.specs.declared.path.Verdict.TheVariants.{Rejected}
use Rattle.rpki_verdicts.proofs.GivenKinds.{unless_not, no_files, given_by, begins_at}
use Rattle.rpki_verdicts.proofs.OneVerdict.{named_verdict, no_numbers_verdict, other_key_verdict}
use Rattle.rpki_verdicts.proofs.path.verdict_on.Goals as goal

pub returns-in_default : goal.returns-in_default
returns-in_default g c = no_files c.args.members.now c.args.kind c.requires.kind (λ can. false≢true (c.in_default.ensures.some.1 can))

pub returns-then-has_other_key : goal.returns-then-has_other_key
returns-then-has_other_key g c =
    let q = c.args.question.now in
    let x = context IsSignedByRsa q.at q.strict in
    let asks = g.R.RevocationSource.asks c.args.asked.now in
    let strings = c.args.members.now in
    let path = c.in-Some.path in
    let given = given_by strings c.args.kind path c.requires.kind c.in-Some.ensures.split in
    let first = begins_at strings c.args.kind path c.in-Some.ensures.split in
    let other = c.has_other_key.ensures.other c.if-has_other_key.true path.anchor first.0 (sym c.requires.members ∙ first.1) in (
      path,
      given,
      other_key_verdict c.unambiguous.ensures.certificate x (asks x) (demands_of q) strings path
          c.other_key.result other.0 other.1 c.other_key.ensures.place c.other_key.ensures.reason,
    )

pub returns-then-has_no_numbers : goal.returns-then-has_no_numbers
returns-then-has_no_numbers g c =
    let q = c.args.question.now in
    let x = context IsSignedByRsa q.at q.strict in
    let asks = g.R.RevocationSource.asks c.args.asked.now in
    let strings = c.args.members.now in
    let path = c.in-Some.path in
    let given = given_by strings c.args.kind path c.requires.kind c.in-Some.ensures.split in
    let first = begins_at strings c.args.kind path c.in-Some.ensures.split in
    let none = c.has_no_numbers.ensures.none c.if-has_no_numbers.true path.anchor first.0 (sym c.requires.members ∙ first.1) in (
      path,
      given,
      no_numbers_verdict c.unambiguous.ensures.certificate x (asks x) (demands_of q) strings path
          c.no_resources.result none.0 none.1 c.no_resources.ensures.place c.no_resources.ensures.reason,
    )

pub returns-in_ok-verdict-in-Ok : goal.returns-in_ok-verdict-in-Ok
returns-in_ok-verdict-in-Ok g c =
    let q = c.args.question.now in
    let x = context IsSignedByRsa q.at q.strict in
    let asks = g.R.RevocationSource.asks c.args.asked.now in
    let strings = c.args.members.now in
    let path = c.in-Some.path in
    let judged = c.in-Ok.judged in
    let verdict = c.in_ok-verdict-in-Ok.verdict in
    let given = given_by strings c.args.kind path c.requires.kind c.in-Some.ensures.split in
    let first = begins_at strings c.args.kind path c.in-Some.ensures.split in
    let accepted : IsAcceptedWith x (asks x) path judged =
    subst (λ (f : QuestionFields). IsAcceptedWith (context IsSignedByRsa f.at f.strict)
    (asks (context IsSignedByRsa f.at f.strict)) path judged) c.question.view_is c.in-Ok.ensures.judges in
    let begins : BeginsWithCertificate path.anchor = (accepted.accepted.path.anchor, accepted.accepted.path_of.anchor_begins) in
    let located = c.has_other_key.ensures.located c.if-has_other_key.false path.anchor first.0 (sym c.requires.members ∙ first.1) begins in
    let numbers = c.has_no_numbers.ensures.numbers c.if-has_no_numbers.false path.anchor first.0
    (sym c.requires.members ∙ first.1) begins in
    let place : length strings - 1 + 1 ≡ length strings = omega (arith, c.in-Some.ensures.count) in
    let named = subst (λ (f : QuestionFields). IsNamedVerdict path f.names judged (length strings - 1) verdict)
    c.question.view_is c.in_ok-verdict-in-Ok.ensures in (
      path,
      given,
      named_verdict c.unambiguous.ensures.certificate x (asks x) (demands_of q) strings path judged
          (length strings - 1) located numbers accepted place verdict named,
    )

pub with_names-requires : goal.with_names-requires
with_names-requires g c =
    let q = c.args.question.now in
    let x = context IsSignedByRsa q.at q.strict in
    let asks = g.R.RevocationSource.asks c.args.asked.now in
    let path = c.in-Some.path in
    let judged = c.in-Ok.judged in
    let accepted : IsAcceptedWith x (asks x) path judged =
    subst (λ (f : QuestionFields). IsAcceptedWith (context IsSignedByRsa f.at f.strict)
    (asks (context IsSignedByRsa f.at f.strict)) path judged) c.question.view_is c.in-Ok.ensures.judges in
    accepted_begin x (asks x) path judged accepted

pub returns-in_ok-fault-in-Err : goal.returns-in_ok-fault-in-Err
returns-in_ok-fault-in-Err g c =
    let asks = g.R.RevocationSource.asks c.args.asked.now in
    let strings = c.args.members.now in
    let path = c.in-Some.path in
    let error = c.in-Err.error in
    let fault = c.in_ok-fault-in-Err.fault in
    let given = given_by strings c.args.kind path c.requires.kind c.in-Some.ensures.split in
    let no_memory = c.in_ok-fault-in-Err.ensures.no_memory in
    let is_wrong = unless_not error.fault c.in-Err.ensures.judges no_memory in
    let files : contents c.question.inside.members.now ≡ strings = ap (λ (f : QuestionFields). contents f.members)
    c.question.view_is ∙ sym c.requires.members in
    let reason = subst (λ (l : List (List ℕ)). IsReasonAt l error.fault fault) files c.in_ok-fault-in-Err.ensures.reason in
    subst (λ (f : QuestionFields). (p : PathStrings) × IsGivenBy strings p ×
    IsVerdictOn (context IsSignedByRsa f.at f.strict) (asks (context IsSignedByRsa f.at f.strict))
    (demands_of f) strings p (Rejected fault)) c.question.view_is (
      path,
      given,
      (
        (λ j usable. is_wrong.0 j usable.accepted),
        inr (inl (record {
          error = error;
          place_is = sym c.in_ok-fault-in-Err.ensures.index;
          no_memory = no_memory;
          fault_is =
              is_wrong.1;
          reason_is = reason;
        })),
      ),
    )
