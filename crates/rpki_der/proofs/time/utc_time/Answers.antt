use Rattle.std.specs.Prelude.{Some, None}
use Rattle.std.proofs.Common.{arith}
use Rattle.rpki_der.specs.Times.{Moment, moment}
use Rattle.rpki_der.specs.declared.error.DecodeError.TheVariants.{BadValue}
use Rattle.rpki_der.proofs.MomentTests.{gives_moment}
use Rattle.rpki_der.proofs.TimeReads.{utc_other, utc_pairs}
use Rattle.rpki_der.proofs.time.utc_time.Goals as goal
use Rattle.rpki_der.proofs.time.utc_time.Goals.{in_default-via-then-text-lt13}
use Rattle.rpki_der.proofs.time.utc_time.Goals.{in_default-via-else-text-lt13+then-text-lt14+in_default-1}
use Rattle.rpki_der.proofs.time.utc_time.Goals.{in_default-via-else-text-lt13+else-text-lt14}

pub returns-in_default : goal.returns-in_default
returns-in_default c = (
  λ e. absurd cc,
  utc_other c.args.text.now (λ long end. elim c.in_default.branch [
    | in_default-via-then-text-lt13 w ↦ grind arith
    | in_default-via-else-text-lt13+then-text-lt14+in_default-1 w ↦ grind arith
    | in_default-via-else-text-lt13+else-text-lt14 w ↦ grind arith
  ]),
)

pub returns-in-Some : goal.returns-in-Some
returns-in-Some c =
    let m : Moment = moment c.full_year.result c.pair-month.result c.pair-day.result c.pair-hour.result
    c.pair-minute.result c.pair-second.result in
    rw (utc_pairs c.args.text.now (omega arith) (omega arith) c.pair-year.result c.full_year.result
    c.pair-month.result c.pair-day.result c.pair-hour.result c.pair-minute.result c.pair-second.result
    (omega arith) c.full_year.ensures
    c.pair-year.ensures c.pair-month.ensures c.pair-day.ensures c.pair-hour.ensures c.pair-minute.ensures c.pair-second.ensures)
    (gives_moment (Some c.in-Some.time) m BadValue c.in-Some.ensures.exists c.in-Some.ensures.value (λ e. absurd cc))

pub returns-in-None : goal.returns-in-None
returns-in-None c =
    let m : Moment = moment c.full_year.result c.pair-month.result c.pair-day.result c.pair-hour.result
    c.pair-minute.result c.pair-second.result in
    rw (utc_pairs c.args.text.now (omega arith) (omega arith) c.pair-year.result c.full_year.result
    c.pair-month.result c.pair-day.result c.pair-hour.result c.pair-minute.result c.pair-second.result
    (omega arith) c.full_year.ensures
    c.pair-year.ensures c.pair-month.ensures c.pair-day.ensures c.pair-hour.ensures c.pair-minute.ensures c.pair-second.ensures)
    (gives_moment None m BadValue c.in-None.ensures.exists c.in-None.ensures.value (λ e. absurd cc))
