use Rattle.std.specs.Prelude.{map}
use Rattle.std.proofs.Common.{◌++◌, ℕ, List, ap, inl, refl, ◌∙◌}
use Rattle.std.proofs.lemmas.Result.{err_from_is_err_and}
use Rattle.rpki_files.specs.Files.{contents}
use Rattle.rpki_requests.specs.OptionValues.{revoked_at}
use Rattle.rpki_requests.specs.RequestWords.Views.{given_fields}
use Rattle.rpki_requests.specs.ToldRefusals.{IsWantedFault}
use Rattle.rpki_requests.proofs.OnlyAnswers.{by_err, by_ok}
use Rattle.rpki_requests.proofs.RevokedFiles.{both_revoked, entries_none, entries_ok}
use Rattle.rpki_requests.proofs.lists.entries_revoked.Goals as goal

pub returns-in_ok-all-in-Ok : goal.returns-in_ok-all-in-Ok
returns-in_ok-all-in-Ok c =
    let given = map given_fields c.args.order.now.given.items in
    let files = contents c.args.files.now in
    let issuer = c.args.issuer.now in
    let at = c.args.at in
    let by_files = c.in-Ok.by_files in
    let by_numbers = c.in-Ok.by_numbers in
    let all = both_revoked given files issuer at (λ v. v.items) (λ v. v.items) c.serials_of-by_files.result
    c.serials_given-by_numbers.result c.both.result c.both.ensures.both c.both.ensures.refused
    c.serials_of-by_files.ensures c.serials_given-by_numbers.ensures in
    let only = by_ok (IsWantedFault given files issuer) _ _ c.both.result (by_files, by_numbers) c.in-Ok.is all in
    let serials = ap (λ (l : List ℕ). map (revoked_at at) (l ++ c.deref-in-Ok.result.now)) c.deref.ensures.value
    ∙ ap (λ (l : List ℕ). map (revoked_at at) (by_files.items ++ l)) c.deref-in-Ok.ensures.value in
    entries_ok given files issuer at _ by_files.items by_numbers.items (c.in_ok-all-in-Ok.ensures ∙ serials) only

pub returns-in_err-all-in-Ok : goal.returns-in_err-all-in-Ok
returns-in_err-all-in-Ok c =
    let gives = err_from_is_err_and c.from_residual.result c.from_residual.ensures.1 in
    rw (gives.1, gives.2) (inl tt, λ not. absurd (not refl))

pub returns-in-Err : goal.returns-in-Err
returns-in-Err c =
    let given = map given_fields c.args.order.now.given.items in
    let files = contents c.args.files.now in
    let issuer = c.args.issuer.now in
    let all = both_revoked given files issuer c.args.at (λ v. v.items) (λ v. v.items) c.serials_of-by_files.result
    c.serials_given-by_numbers.result c.both.result c.both.ensures.both c.both.ensures.refused
    c.serials_of-by_files.ensures c.serials_given-by_numbers.ensures in
    let none = by_err (IsWantedFault given files issuer) _ _ c.both.result c.in-Err.why c.in-Err.is all in
    (none.0, λ not. entries_none given files issuer c.args.at (none.1 not))
