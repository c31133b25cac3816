use Rattle.std.specs.Prelude.{Err, Some, map}
use Rattle.std.proofs.Common.{◌≡◌, rules}
use Rattle.rpki_requests.specs.RequestWords.{given_values}
use Rattle.rpki_requests.specs.RequestWords.Views.{given_fields}
use Rattle.rpki_requests.proofs.GivenWants.{once_ok}
use Rattle.rpki_requests.proofs.values.once.Goals as goal

pub returns-in_err-value : goal.returns-in_err-value
returns-in_err-value g c =
    let same : c.from_residual.result ≡ Err c.in_err-value.field-0.0 = search rules in
    rw same (c.in_err-value.ensures.0, λ not w h. c.in_err-value.ensures.1 not (Some w) h)

pub returns-in-Some : goal.returns-in-Some
returns-in-Some g c =
    once_ok g.T.Textual.is_text (given_values c.args.setting (map given_fields c.args.order.now.given.items))
    c.in-Some.value (rw c.in-Some.is at c.in_ok-value.ensures)
