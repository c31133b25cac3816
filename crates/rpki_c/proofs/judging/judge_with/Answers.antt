use Rattle.std.specs.Prelude.{Err, Ok}
use Rattle.std.proofs.Common.{◌≡◌, rules, subst}
use Rattle.rpki_path.specs.Judging.{Judges}
use Rattle.rpki_path.proofs.UnchainedNames.{accepted_begin}
use Rattle.rpki_c.specs.Verdicts.{AskedCrls, checks_by, asked_context}
use Rattle.rpki_c.specs.declared.refusal.Refusal.TheVariants as refusal
use Rattle.rpki_c.proofs.judging.judge_with.Goals as goal

pub returns-in_err-judged-clause-fails : goal.returns-in_err-judged-clause-fails
returns-in_err-judged-clause-fails c =
    let x = asked_context c.args.terms.now in
    let e = c.in_err-judged.field-0.0 in
    let same : c.from_residual.result ≡ Err (refusal.Member e) = search rules in
    rw same (subst (λ (a : AskedCrls). Judges x (checks_by a x) c.args.path.now (Err e)) c.by-asked.ensures
    c.in_err-judged.ensures.judges)

pub unchained-requires : goal.unchained-requires
unchained-requires c =
    let x = asked_context c.args.terms.now in
    accepted_begin x (checks_by c.by-asked.result x) c.args.path.now c.in_ok-judged.judged c.in_ok-judged.ensures.judges

pub returns-then-not-has_key_asked-clause-fails : goal.returns-then-not-has_key_asked-clause-fails
returns-then-not-has_key_asked-clause-fails c =
    let x = asked_context c.args.terms.now in
    let judged = c.in_ok-judged.judged in (
      judged,
      subst (λ (a : AskedCrls). Judges x (checks_by a x) c.args.path.now (Ok judged)) c.by-asked.ensures
          c.in_ok-judged.ensures.judges,
      rw c.in_default.is at c.in_ok-place.ensures,
      λ has. let is = c.has_key_asked.ensures.1 has in let isnt = c.if-not-has_key_asked.true in cc,
    )
