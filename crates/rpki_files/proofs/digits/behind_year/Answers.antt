use Rattle.std.proofs.Common.{[], ◌∷◌, ◌++◌}
use Rattle.rpki_der.specs.Times.{two}
use Rattle.rpki_files.proofs.NumberedTimes.{none_anyway}
use Rattle.rpki_files.proofs.digits.behind_year.Goals as goal

pub returns-in_err-hour-clause-none : goal.returns-in_err-hour-clause-none
returns-in_err-hour-clause-none c =
    let month = c.in_ok-month.ensures.some in
    let day = c.in_ok-day.ensures.some in
    none_anyway _ c.from_residual-in_err-hour.result
    (λ m digits same. c.in_err-hour.ensures.none m.hour (two m.minute ++ (two m.second ++ 90 ∷ [])) digits.hour
    (cc (same, month.1, day.1)))

pub returns-in_err-minute-clause-none : goal.returns-in_err-minute-clause-none
returns-in_err-minute-clause-none c =
    let month = c.in_ok-month.ensures.some in
    let day = c.in_ok-day.ensures.some in
    let hour = c.in_ok-hour.ensures.some in
    none_anyway _ c.from_residual-in_err-minute.result
    (λ m digits same. c.in_err-minute.ensures.none m.minute (two m.second ++ 90 ∷ []) digits.minute
    (cc (same, month.1, day.1, hour.1)))

pub returns-in_err-second-clause-none : goal.returns-in_err-second-clause-none
returns-in_err-second-clause-none c =
    let month = c.in_ok-month.ensures.some in
    let day = c.in_ok-day.ensures.some in
    let hour = c.in_ok-hour.ensures.some in
    let minute = c.in_ok-minute.ensures.some in
    none_anyway _ c.from_residual-in_err-second.result
    (λ m digits same. c.in_err-second.ensures.none m.second (90 ∷ []) digits.second
    (cc (same, month.1, day.1, hour.1, minute.1)))
