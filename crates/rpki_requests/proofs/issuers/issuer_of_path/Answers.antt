use Rattle.std.specs.Prelude.{Err}
use Rattle.std.proofs.Common.{◌≡◌, [], rules, sym, subst}
use Rattle.rpki_keys.specs.RsaSignatures.{IsSignedByRsa}
use Rattle.rpki_cert.specs.Verification.{context}
use Rattle.rpki_files.specs.Files.{contents}
use Rattle.rpki_verdicts.specs.PathAnswers.{IsVerdictBy}
use Rattle.rpki_verdicts.specs.declared.path.Verdict.TheVariants.{Accepted, Rejected}
use Rattle.rpki_requests.specs.Refusals.{TellsPath}
use Rattle.rpki_requests.specs.RequestFiles.{chained}
use Rattle.rpki_requests.specs.declared.refusals.Refusal.{Refusal}
use Rattle.rpki_requests.proofs.JudgedIssuers.{authority_held, authority_none, authority_only, none_only, rejected_none}
use Rattle.rpki_requests.proofs.issuers.issuer_of_path.Goals as goal

pub returns-in-None-clause-only : goal.returns-in-None-clause-only
returns-in-None-clause-only c =
    let empty : contents c.args.files.now ≡ [] = search rules in
    none_only (context IsSignedByRsa c.args.at c.args.strict) (contents c.args.files.now)
    (contents c.args.lists.now) empty

pub returns-in_err-authority_of-in-Some-Accepted-clause-none :
    goal.returns-in_err-authority_of-in-Some-Accepted-clause-none
returns-in_err-authority_of-in-Some-Accepted-clause-none c =
    let x = context IsSignedByRsa c.args.at c.args.strict in
    let files = contents c.args.files.now in
    let lists = contents c.args.lists.now in
    let on : IsVerdictBy x chained files lists (Accepted c.in-Some-Accepted.judged) = search rules in
    let same : c.from_residual-in_err-authority_of-in-Some-Accepted.result ≡
    Err c.in_err-authority_of-in-Some-Accepted.field-0.0 = search rules in
    rw same (λ not issuer is. authority_none x files lists c.in-Some-Accepted.judged on
    (λ j i. c.one_acceptance.ensures c.args.at c.args.strict chained files lists j i)
    c.in_err-authority_of-in-Some-Accepted.ensures.no_authority.1 issuer is)

pub returns-in_ok-authority_of-in-Some-Accepted-clause-issuer :
    goal.returns-in_ok-authority_of-in-Some-Accepted-clause-issuer
returns-in_ok-authority_of-in-Some-Accepted-clause-issuer c =
    let x = context IsSignedByRsa c.args.at c.args.strict in
    let files = contents c.args.files.now in
    let lists = contents c.args.lists.now in
    let on : IsVerdictBy x chained files lists (Accepted c.in-Some-Accepted.judged) = search rules in
    let holds = c.in_ok-authority_of-in-Some-Accepted.ensures.holder in
    authority_held x files lists c.in-Some-Accepted.judged on c.in_ok-authority_of-in-Some-Accepted.field-0 holds.0
    holds.1

pub returns-in_ok-authority_of-in-Some-Accepted-clause-only :
    goal.returns-in_ok-authority_of-in-Some-Accepted-clause-only
returns-in_ok-authority_of-in-Some-Accepted-clause-only c =
    let x = context IsSignedByRsa c.args.at c.args.strict in
    let files = contents c.args.files.now in
    let lists = contents c.args.lists.now in
    let on : IsVerdictBy x chained files lists (Accepted c.in-Some-Accepted.judged) = search rules in
    authority_only x files lists c.in-Some-Accepted.judged on
    (λ j i. c.one_acceptance.ensures c.args.at c.args.strict chained files lists j i)
    c.in_ok-authority_of-in-Some-Accepted.field-0 c.in_ok-authority_of-in-Some-Accepted.ensures.holder.0

pub returns-in-Some-Rejected-clause-none : goal.returns-in-Some-Rejected-clause-none
returns-in-Some-Rejected-clause-none c = λ not.
    let x = context IsSignedByRsa c.args.at c.args.strict in
    let files = contents c.args.files.now in
    let lists = contents c.args.lists.now in
    let on : IsVerdictBy x chained files lists (Rejected c.in-Some-Rejected.fault) = search rules in
    rejected_none x files lists c.in-Some-Rejected.fault
    (λ j a b. c.one_answer.ensures c.args.at c.args.strict chained files lists j c.in-Some-Rejected.fault a b)
    on

pub returns-in_err-authority_of-in-Some-Accepted-clause-told :
    goal.returns-in_err-authority_of-in-Some-Accepted-clause-told
returns-in_err-authority_of-in-Some-Accepted-clause-told c =
    let x = context IsSignedByRsa c.args.at c.args.strict in
    let files = contents c.args.files.now in
    let lists = contents c.args.lists.now in
    let on : IsVerdictBy x chained files lists (Accepted c.in-Some-Accepted.judged) = search rules in
    let why = c.in_err-authority_of-in-Some-Accepted.field-0.0 in
    let none = c.in_err-authority_of-in-Some-Accepted.ensures.no_authority in
    let same : c.from_residual-in_err-authority_of-in-Some-Accepted.result ≡ Err why = search rules in
    rw same (subst (λ (w : Refusal). TellsPath x files lists w) (sym none.0)
    (record { judged = c.in-Some-Accepted.judged; accepted = on; no_authority = none.1 }))
