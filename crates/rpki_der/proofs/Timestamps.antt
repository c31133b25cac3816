-- Moments and their numbers of seconds since 1970.
use Rattle.std.proofs.Common.{◌≡◌, ℕ, ℤ, pos, negsuc, ◌≤ℤ◌, ◌*ℤ◌, unsigned_abs, min, refl, sym, ap, subst, ◌∙◌, arith}
use Rattle.jiff_core.specs.Calendar.{days_in_month as calendar_days}
use Rattle.jiff_core.specs.DateTime.{civil_nanos, civil_seconds, IsCivilNanos}
use Rattle.jiff_core.specs.declared.civil.datetime.DateTime.{DateTime}
use Rattle.jiff_core.proofs.DateLemmas.{epoch_day_injective}
use Rattle.jiff_core.proofs.DateTimeLemmas.{civil_nanos-civil_seconds, civil_nanos_range, civil_nanos_injective, time_nanos_injective}
use Rattle.jiff_core.proofs.SignedLemmas.{signed_arith}
use Rattle.rpki_der.specs.Times.{Moment, IsMoment, days_in_month}
use Rattle.rpki_der.specs.Times.Views.{moment_of, datetime_of, within}
use Rattle.rpki_der.specs.Timestamps.{timestamp}

-- the calendar's months have as many days as those of moments
calendar_months : (y m : ℕ) → calendar_days (pos y) m ≡ days_in_month y m
calendar_months y m = grind arith

-- a moment that exists is what its date and time of day show
shown_again : (m : Moment) → IsMoment m → moment_of (datetime_of m) ≡ m
shown_again m h =
    let year : min m.year 9999 ≡ m.year = omega (arith, h.year) in
    let month : within 12 m.month ≡ m.month = omega (arith, h.month) in
    let days : calendar_days (pos (min m.year 9999)) (within 12 m.month) ≡ days_in_month m.year m.month =
    rw (year, month) (calendar_months m.year m.month) in
    let same : within (days_in_month m.year m.month) m.day ≡ m.day = omega (arith, h.day) in
    let day : within (calendar_days (pos (min m.year 9999)) (within 12 m.month)) m.day ≡ m.day =
    ap (λ (n : ℕ). within n m.day) days ∙ same in
    let hour : min m.hour 23 ≡ m.hour = omega (arith, h.hour) in
    let minute : min m.minute 59 ≡ m.minute = omega (arith, h.minute) in
    let second : min m.second 59 ≡ m.second = omega (arith, h.second) in
    λ i. record { year = year i; month = month i; day = day i; hour = hour i; minute = minute i; second = second i }

-- a year that is not negative is its absolute value
year_again : (y : ℤ) → pos 0 ≤ℤ y → pos (unsigned_abs y) ≡ y
year_again (pos n) low = refl
year_again (negsuc n) low = absurd (omega (arith, signed_arith, low))

-- the number of what a date and time show is their number of seconds
pub timestamp_is : (t : DateTime) → pos 0 ≤ℤ t.date.year → timestamp (moment_of t) ≡ civil_seconds t
unfolding timestamp civil_seconds
timestamp_is t low = rw (year_again t.date.year low) refl

-- the nanoseconds of the date and time that show a moment
pub nanos_of : (m : Moment) → IsMoment m → civil_nanos (datetime_of m) ≡ timestamp m *ℤ pos 1_000_000_000
nanos_of m h =
    let seconds : timestamp m ≡ civil_seconds (datetime_of m) = ap timestamp (sym (shown_again m h)) ∙
    timestamp_is (datetime_of m) (omega (arith, signed_arith)) in
    omega (arith, signed_arith, seconds, civil_nanos-civil_seconds (datetime_of m))

-- ---- which numbers moments have

-- a moment is one of the calendar's seconds
pub in_calendar : (m : Moment) (s : ℤ) → IsMoment m → timestamp m ≡ s → IsCivilNanos (s *ℤ pos 1_000_000_000)
in_calendar m s h e = subst (λ (z : ℤ). IsCivilNanos z) (nanos_of m h ∙ ap (λ (z : ℤ). z *ℤ pos 1_000_000_000) e)
    (civil_nanos_range (datetime_of m))

-- of the calendar's seconds those of a moment lie in a year that is not negative
pub year_shown : (t : DateTime) (m : Moment) (s : ℤ) → civil_nanos t ≡ s *ℤ pos 1_000_000_000 → IsMoment m →
    timestamp m ≡ s → t.date.year ≡ pos (min m.year 9999)
year_shown t m s at h e =
    let nanos : civil_nanos t ≡ civil_nanos (datetime_of m) = at ∙ ap (λ (z : ℤ). z *ℤ pos 1_000_000_000) (sym e) ∙ sym (nanos_of m h) in
    (epoch_day_injective t.date (datetime_of m).date (civil_nanos_injective t (datetime_of m) nanos).0).0

-- the calendar's second with such nanoseconds has no fraction, and this number of seconds
pub whole_second : (t : DateTime) (s : ℤ) → civil_nanos t ≡ s *ℤ pos 1_000_000_000 → (civil_seconds t ≡ s) × (t.time.subsec_nanosecond ≡ 0)
whole_second t s at =
    omega (arith, signed_arith, at, civil_nanos-civil_seconds t, t.time.subsec_in)

-- what a date and time of the years 0 to 9999 show exists
pub exists_shown : (t : DateTime) → pos 0 ≤ℤ t.date.year → IsMoment (moment_of t)
exists_shown t low =
    let d = t.date in
    let high : pos (unsigned_abs d.year) ≤ℤ pos 9999 = rw (year_again d.year low) d.year_in.1 in
    let days : calendar_days d.year d.month ≡ days_in_month (unsigned_abs d.year) d.month =
    ap (λ (y : ℤ). calendar_days y d.month) (sym (year_again d.year low)) ∙
    calendar_months (unsigned_abs d.year) d.month in
    record {
      year = omega (arith, signed_arith, high);
      month = d.month_in;
      day = (d.day_in.0, omega (arith, days, d.day_in));
      hour = t.time.hour_in;
      minute = t.time.minute_in;
      second = t.time.second_in;
    }

-- the moment that a second of the calendar shows has its number
pub number_shown : (t : DateTime) (s : ℤ) → civil_nanos t ≡ s *ℤ pos 1_000_000_000 → pos 0 ≤ℤ t.date.year → timestamp (moment_of t) ≡ s
number_shown t s at low = timestamp_is t low ∙ (whole_second t s at).0

-- moments with one number are one
pub one_timestamp : (m n : Moment) → IsMoment m → IsMoment n → timestamp m ≡ timestamp n → m ≡ n
one_timestamp m n h k e =
    let a = datetime_of m in
    let b = datetime_of n in
    let nanos : civil_nanos a ≡ civil_nanos b = nanos_of m h ∙ ap (λ (z : ℤ). z *ℤ pos 1_000_000_000) e ∙ sym (nanos_of n k) in
    let same = civil_nanos_injective a b nanos in
    let date = epoch_day_injective a.date b.date same.0 in
    let clock = time_nanos_injective a.time b.time same.1 in
    let shown : moment_of a ≡ moment_of b =
    λ i. record {
      year = unsigned_abs (date.0 i);
      month = date.1 i;
      day = date.2 i;
      hour = clock.0 i;
      minute =
          clock.1 i;
      second = clock.2 i;
    } in
    sym (shown_again m h) ∙ shown ∙ shown_again n k
