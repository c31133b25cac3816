-- The reading function of a time.
use Rattle.std.specs.Prelude.{◌≡◌, Bool, ◌&&◌, nat_lt, nat_le, ℕ, ◌+◌, ◌-◌, ◌*◌, if◌then◌else◌, List, [], ◌∷◌, Option, Some, None, bytes_eq}
use Rattle.rpki_der.specs.Choices.{choice}
use Rattle.rpki_der.specs.Reading.{content}
use Rattle.rpki_der.specs.Tags.{UTC_TIME, GENERALIZED_TIME}
use Rattle.rpki_der.specs.Times.{Moment, moment, days_in_month}
use Rattle.rpki_der.specs.Values.Reading.{◌>>=◌}

-- a test of IsMoment
unfoldable pub is_moment : Moment → Bool
is_moment m =
    nat_lt m.year 10000 && (nat_le 1 m.month && nat_le m.month 12)
    && (nat_le 1 m.day && nat_le m.day (days_in_month m.year m.month))
    && (nat_lt m.hour 24 && (nat_lt m.minute 60 && nat_lt m.second 60))

-- whether the octet is a decimal digit
abbrev pub is_digit : ℕ → Bool
is_digit n = nat_le 48 n && nat_le n 57

-- the number that two decimal digits are
unfoldable pub two_at : List ℕ → Option (ℕ × List ℕ)
two_at [] = None
two_at (a ∷ []) = None
two_at (a ∷ b ∷ text) = if is_digit a && is_digit b then Some ((a - 48) * 10 + (b - 48), text) else None

-- two octets are the decimal digits of a number below 100; or one is no digit, and n is not below
-- 100
abbrev pub IsPair : ℕ → ℕ → ℕ → Type 0
IsPair tens ones n = (rest : List ℕ) → two_at (tens ∷ ones ∷ rest) ≡ (if nat_lt n 100 then Some (n, rest) else None)

-- the moment, where it exists and this alone remains of the text
abbrev pub existing : List ℕ → List ℕ → Moment → Option Moment
existing end text m = if bytes_eq text end && is_moment m then Some m else None

-- MMDDhhmmss and this end
unfoldable pub after_year_of : List ℕ → ℕ → List ℕ → Option Moment
after_year_of end year text = do
  month ← two_at text
  day ← two_at month.1
  hour ← two_at day.1
  minute ← two_at hour.1
  second ← two_at minute.1
  existing end second.1 (moment year month.0 day.0 hour.0 minute.0 second.0)

-- the year from 1950 to 2049 with these last two digits (RFC 5280 4.1.2.5.1)
abbrev pub full_year : ℕ → ℕ
full_year last = if nat_lt last 50 then 2000 + last else 1900 + last

-- YYMMDDhhmmssZ
unfoldable pub utc_of : List ℕ → Option Moment
utc_of text = do
  year ← two_at text
  after_year_of (90 ∷ []) (full_year year.0) year.1

-- YYYYMMDDhhmmss and this end
unfoldable pub moment_at : List ℕ → List ℕ → Option Moment
moment_at end text = do
  century ← two_at text
  year ← two_at century.1
  after_year_of end (century.0 * 100 + year.0) year.1

-- YYYYMMDDhhmmssZ
abbrev pub generalized_of : List ℕ → Option Moment
generalized_of = moment_at (90 ∷ [])

-- reads a Time
unfoldable pub time_at : List ℕ → Option (Moment × List ℕ)
time_at = choice UTC_TIME (content UTC_TIME utc_of) (content GENERALIZED_TIME generalized_of)
