use Rattle.std.specs.Prelude.{bytes_eq, Some, None}
use Rattle.std.proofs.Common.{◌≡◌, true, rules}
use Rattle.rpki_der.specs.Times.{Moment}
use Rattle.rpki_der.specs.Times.Reading.{after_year_of}
use Rattle.rpki_der.specs.declared.error.DecodeError.TheVariants.{BadValue}
use Rattle.rpki_der.proofs.MomentTests.{gives_moment}
use Rattle.rpki_der.proofs.time.after_year.Goals as goal

pub returns-in-Some : goal.returns-in-Some
unfolding after_year_of
returns-in-Some c =
    let m : Moment = record {
      year = c.args.year;
      month = c.in_ok-month.month;
      day = c.in_ok-day.day;
      hour =
          c.in_ok-hour.hour;
      minute = c.in_ok-minute.minute;
      second = c.in_ok-second.second;
    } in
    let ends : bytes_eq c.in_ok-second.text.now c.args.end.now ≡ true = search rules in
    rw (
      c.in_ok-month.ensures.reads,
      c.in_ok-day.ensures.reads,
      c.in_ok-hour.ensures.reads,
      c.in_ok-minute.ensures.reads,
      c.in_ok-second.ensures.reads,
      ends,
    )
    (gives_moment (Some c.in-Some.time) m BadValue c.in-Some.ensures.exists c.in-Some.ensures.value (λ e. absurd cc))

pub returns-in-None : goal.returns-in-None
unfolding after_year_of
returns-in-None c =
    let m : Moment = record {
      year = c.args.year;
      month = c.in_ok-month.month;
      day = c.in_ok-day.day;
      hour =
          c.in_ok-hour.hour;
      minute = c.in_ok-minute.minute;
      second = c.in_ok-second.second;
    } in
    let ends : bytes_eq c.in_ok-second.text.now c.args.end.now ≡ true = search rules in
    rw (
      c.in_ok-month.ensures.reads,
      c.in_ok-day.ensures.reads,
      c.in_ok-hour.ensures.reads,
      c.in_ok-minute.ensures.reads,
      c.in_ok-second.ensures.reads,
      ends,
    )
    (gives_moment None m BadValue c.in-None.ensures.exists c.in-None.ensures.value (λ e. absurd cc))
