-- Seconds since 1970-01-01T00:00:00Z, without leap seconds (POSIX.1-2017, XBD 4.16).
use Rattle.std.specs.Prelude.{ℕ, ◌+◌, ◌*◌, ℤ, pos, ◌+ℤ◌, ◌*ℤ◌}
use Rattle.jiff_core.specs.Calendar.{days_from_civil}
use Rattle.rpki_der.specs.Times.{Moment}

-- the seconds of its day that lie before the moment
abbrev pub seconds_of_day : Moment → ℕ
seconds_of_day m = m.hour * 3600 + m.minute * 60 + m.second

-- the days from 1970-01-01 to the moment's date in the proleptic Gregorian calendar, of 86,400
-- seconds each, and the seconds of its day; before 1970 the number is negative
unfoldable pub timestamp : Moment → ℤ
timestamp m = days_from_civil (pos m.year) m.month m.day *ℤ pos 86_400 +ℤ pos (seconds_of_day m)
