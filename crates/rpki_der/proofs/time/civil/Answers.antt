use Rattle.std.proofs.Common.{arith, refl, sym, true≢false, FitsSigned, w8, w16}
use Rattle.std.proofs.lemmas.Int.{to_z-of_z}
use Rattle.rpki_der.proofs.time.civil.Goals as goal

pub returns-clause-succeeds : goal.returns-clause-succeeds
returns-clause-succeeds c =
    let year : FitsSigned w16 c.args.year = c.ranges.year in
    let month : FitsSigned w8 c.args.month = c.ranges.month in
    let day : FitsSigned w8 c.args.day = c.ranges.day in
    let hour : FitsSigned w8 c.args.hour = c.ranges.hour in
    let minute : FitsSigned w8 c.args.minute = c.ranges.minute in
    let second : FitsSigned w8 c.args.second = c.ranges.second in
    let date = simp to_z-of_z at c.in_ok-date.ensures.succeeds in
    let clock = simp to_z-of_z at c.in_ok-time.ensures.succeeds in
    (λ _. (date.0 refl, clock.0 refl), λ _. refl)

pub returns-in_err-date-clause-succeeds : goal.returns-in_err-date-clause-succeeds
returns-in_err-date-clause-succeeds c =
    let year : FitsSigned w16 c.args.year = c.ranges.year in
    let month : FitsSigned w8 c.args.month = c.ranges.month in
    let day : FitsSigned w8 c.args.day = c.ranges.day in
    let date = simp to_z-of_z at c.in_err-date.ensures.succeeds in
    (λ ok. absurd (grind (arith, c.from_residual.ensures)), λ can. absurd (true≢false (sym (date.1 can.0))))

pub returns-in_err-time-clause-succeeds : goal.returns-in_err-time-clause-succeeds
returns-in_err-time-clause-succeeds c =
    let hour : FitsSigned w8 c.args.hour = c.ranges.hour in
    let minute : FitsSigned w8 c.args.minute = c.ranges.minute in
    let second : FitsSigned w8 c.args.second = c.ranges.second in
    let clock = simp to_z-of_z at c.in_err-time.ensures.succeeds in
    (λ ok. absurd (grind (arith, c.from_residual-in_err-time.ensures)), λ can. absurd (true≢false (sym (clock.1 can.1))))
