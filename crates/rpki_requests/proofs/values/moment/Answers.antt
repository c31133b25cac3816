use Rattle.std.specs.Prelude.{Some}
use Rattle.rpki_requests.proofs.values.moment.Goals as goal

pub returns-in-Err : goal.returns-in-Err
returns-in-Err c = (c.in-Err.ensures.0, λ not v h. c.in-Err.ensures.1 not (Some v) h)
