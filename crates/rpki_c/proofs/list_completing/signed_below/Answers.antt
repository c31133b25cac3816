use Rattle.std.specs.Prelude.{Err}
use Rattle.std.proofs.Common.{◌≡◌, ℕ, List, rules, subst}
use Rattle.rpki_c.specs.ListAnswers.{AnswersListSigned}
use Rattle.rpki_c.proofs.AnsweredLists.{signed_list_named}
use Rattle.rpki_c.proofs.list_completing.signed_below.Goals as goal

pub returns-in_err-list : goal.returns-in_err-list
returns-in_err-list c =
    let e = c.in_err-list.field-0.0 in
    let same : c.from_residual-in_err-list.result ≡ Err e = search rules in
    rw same (signed_list_named c.args.issuer.now c.args.octets.now e
    (subst (λ (o : List ℕ). AnswersListSigned o (Err e)) c.in_ok-octets.ensures c.in_err-list.ensures))
