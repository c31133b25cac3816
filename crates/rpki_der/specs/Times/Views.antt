-- A moment as the date and the time of day of a calendar and a clock.
use Rattle.std.proofs.Common.{arith, ◌<◌, ap, ◌∙◌, sym}
use Rattle.std.proofs.Math.Nat.{min-eq_left}
use Rattle.std.proofs.Props.{props}
use Rattle.std.specs.Int.{IsInRange}
use Rattle.std.specs.Prelude.{unsigned_abs, ◌≡◌, pos, ◌≤ℤ◌, ℕ, min, max, ◌≤◌, ℤ, ◌+◌, negsuc}
use Rattle.jiff_core.proofs.CalendarLemmas.{days_in_month_bounds}
use Rattle.jiff_core.proofs.SignedLemmas.{signed_arith}
use Rattle.jiff_core.specs.Calendar.{IsYear, days_in_month}
use Rattle.jiff_core.specs.declared.civil.date.Date.{Date}
use Rattle.jiff_core.specs.declared.civil.datetime.DateTime.{DateTime}
use Rattle.jiff_core.specs.declared.civil.time.Time.{Time as Clock}
use mathlib.Core.HLevel.{is_prop→PathP}
use Rattle.rpki_der.specs.Times.{Moment}

-- the moment that they show
abbrev pub moment_of : DateTime → Moment
moment_of t = record {
  year = unsigned_abs t.date.year;
  month = t.date.month;
  day = t.date.day;
  hour =
      t.time.hour;
  minute = t.time.minute;
  second = t.time.second;
}

-- from the year 0 on, whole seconds
pub record IsWhole (t : DateTime) : Type 0 where
  pub year : pos 0 ≤ℤ t.date.year
  pub second : t.time.subsec_nanosecond ≡ 0

-- ---- the date and the time that show a moment; a part that none has is moved to the nearest that
-- one has

-- the number from 1 to the greatest that is nearest
abbrev pub within : ℕ → ℕ → ℕ
within high n = max 1 (min n high)

-- such a year is one that dates have
pub year_in : (n : ℕ) → IsYear (pos (min n 9999))
year_in n = (omega (arith, signed_arith), omega (arith, signed_arith))

-- the nearest number is in range
pub within_is : (high n : ℕ) → 1 ≤ high → IsInRange 1 high (within high n)
within_is high n some = (omega arith, omega arith)

-- each month has a day
pub month_has_days : (y : ℤ) (m : ℕ) → 1 ≤ days_in_month y m
month_has_days y m = omega (arith, days_in_month_bounds y m)

-- the date that shows a moment's date
abbrev pub date_of : Moment → Date
date_of m = record {
  year = pos (min m.year 9999);
  month = within 12 m.month;
  day = within (days_in_month (pos (min m.year 9999)) (within 12 m.month)) m.day;
  year_in = year_in m.year;
  month_in = within_is 12 m.month (omega arith);
  day_in = within_is (days_in_month (pos (min m.year 9999)) (within 12 m.month)) m.day
      (month_has_days (pos (min m.year 9999)) (within 12 m.month));
}

-- the smaller number is at most the greatest
pub below_is : (high n : ℕ) → min n high < high + 1
below_is high n = omega arith

-- no fraction of a second is one that times have
pub no_fraction : 0 < 1_000_000_000
no_fraction = omega arith

-- the time of day that shows a moment's time
abbrev pub clock_of : Moment → Clock
clock_of m = record {
  hour = min m.hour 23;
  minute = min m.minute 59;
  second = min m.second 59;
  subsec_nanosecond = 0;
  hour_in = below_is 23 m.hour;
  minute_in = below_is 59 m.minute;
  second_in = below_is 59 m.second;
  subsec_in = no_fraction;
}

-- the date and time that show a moment
abbrev pub datetime_of : Moment → DateTime
datetime_of m = record { date = date_of m; time = clock_of m }

-- ---- they show the moment again

same_date : (a b : Date) → a.year ≡ b.year → a.month ≡ b.month → a.day ≡ b.day → a ≡ b
same_date a b y m d = λ i. record {
  year = y i;
  month = m i;
  day = d i;
  year_in = is_prop→PathP (λ j. IsYear (y j)) (λ j. hlevel props) a.year_in b.year_in i;
  month_in = is_prop→PathP (λ j. IsInRange 1 12 (m j)) (λ j. hlevel props) a.month_in b.month_in i;
  day_in = is_prop→PathP (λ j. IsInRange 1 (days_in_month (y j) (m j)) (d j)) (λ j. hlevel props) a.day_in b.day_in i;
}

same_clock : (a b : Clock) → a.hour ≡ b.hour → a.minute ≡ b.minute → a.second ≡ b.second → a.subsec_nanosecond ≡ b.subsec_nanosecond → a ≡ b
same_clock a b h m s n = λ i. record {
  hour = h i;
  minute = m i;
  second = s i;
  subsec_nanosecond = n i;
  hour_in = is_prop→PathP (λ j. h j < 24) (λ j. hlevel props) a.hour_in b.hour_in i;
  minute_in = is_prop→PathP (λ j. m j < 60) (λ j. hlevel props) a.minute_in b.minute_in i;
  second_in = is_prop→PathP (λ j. s j < 60) (λ j. hlevel props) a.second_in b.second_in i;
  subsec_in = is_prop→PathP (λ j. n j < 1_000_000_000) (λ j. hlevel props) a.subsec_in b.subsec_in i;
}

-- the parts of a date of the years 0 to 9999
pub year_is : (y : ℤ) → pos 0 ≤ℤ y → y ≤ℤ pos 9999 → pos (min (unsigned_abs y) 9999) ≡ y
year_is (pos n) low high = let small : n ≤ 9999 = omega (arith, signed_arith, high) in ap pos (min-eq_left small)
year_is (negsuc n) low high = absurd (omega (arith, signed_arith, low))

date_is : (t : DateTime) → pos 0 ≤ℤ t.date.year → date_of (moment_of t) ≡ t.date
date_is t h =
    let d = t.date in
    let year : pos (min (unsigned_abs d.year) 9999) ≡ d.year = year_is d.year h d.year_in.1 in
    let month : within 12 d.month ≡ d.month = omega (arith, d.month_in) in
    let days : days_in_month (pos (min (unsigned_abs d.year) 9999)) (within 12 d.month) ≡
    days_in_month d.year d.month = ap (λ (y : ℤ). days_in_month y (within 12 d.month)) year ∙
    ap (days_in_month d.year) month in
    let same : within (days_in_month d.year d.month) d.day ≡ d.day = omega (arith, d.day_in) in
    same_date (date_of (moment_of t)) d year month (ap (λ (n : ℕ). within n d.day) days ∙ same)

clock_is : (t : DateTime) → t.time.subsec_nanosecond ≡ 0 → clock_of (moment_of t) ≡ t.time
clock_is t h =
    let c = t.time in
    let hour : min c.hour 23 ≡ c.hour = omega (arith, c.hour_in) in
    let minute : min c.minute 59 ≡ c.minute = omega (arith, c.minute_in) in
    let second : min c.second 59 ≡ c.second = omega (arith, c.second_in) in
    same_clock (clock_of (moment_of t)) c hour minute second (sym h)

-- a date and time of whole seconds, from the year 0 on, is the one that shows its moment
pub datetime_is : (t : DateTime) → IsWhole t → datetime_of (moment_of t) ≡ t
datetime_is t h = λ i. record { date = date_is t h.year i; time = clock_is t h.second i }
