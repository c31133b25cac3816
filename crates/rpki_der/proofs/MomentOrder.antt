-- Dates and times of day in the order of their moments.
use Rattle.std.proofs.Common.{◌≡◌, ℕ, ◌+◌, ◌*◌, ◌<◌, ◌⊎◌, ℤ, pos, negsuc, ◌≤ℤ◌, ◌<ℤ◌, unsigned_abs, nat_eq, arith, inl, inr, ap, ◌∙◌}
use Rattle.std.specs.Ordering.{nat_cmp, int_cmp, int_eq}
use Rattle.std.proofs.lemmas.Bool.{cases_order}
use Rattle.std.proofs.lemmas.Int.{ints}
use Rattle.jiff_core.specs.Date.{epoch_day}
use Rattle.jiff_core.specs.DateTime.{civil_nanos}
use Rattle.jiff_core.specs.Time.{time_seconds}
use Rattle.jiff_core.specs.declared.civil.date.Date.{Date}
use Rattle.jiff_core.specs.declared.civil.datetime.DateTime.{DateTime}
use Rattle.jiff_core.specs.declared.civil.time.Time.{Time as Clock}
use Rattle.jiff_core.proofs.CalendarLemmas.{days_in_month_bounds}
use Rattle.jiff_core.proofs.DateLemmas.{IsEarlier, cases_date, epoch_day-lt, epoch_day_same}
use Rattle.jiff_core.proofs.DateTimeLemmas.{civil_nanos-lt, civil_nanos-parts}
use Rattle.jiff_core.proofs.SignedLemmas.{signed_arith, cmp_agrees}
use Rattle.rpki_der.specs.Times.{second_number}
use Rattle.rpki_der.specs.Times.Views.{moment_of, IsWhole}

-- a date before another has the smaller number, whatever the times of day are
day_number : Date → ℕ
day_number d = (unsigned_abs d.year * 13 + d.month) * 32 + d.day

at_day : (t : DateTime) → second_number (moment_of t) ≡ day_number t.date * 86400 + time_seconds t.time
unfolding day_number
at_day t = omega arith

in_day : (c : Clock) → time_seconds c < 86400
in_day c = omega (arith, c.hour_in, c.minute_in, c.second_in)

abs_lt : (a b : ℤ) → pos 0 ≤ℤ a → a <ℤ b → unsigned_abs a < unsigned_abs b
abs_lt (pos m) (pos n) p lt = omega (arith, signed_arith, lt)
abs_lt (pos m) (negsuc n) p lt = absurd (omega (arith, signed_arith, lt))
abs_lt (negsuc m) b p lt = absurd (omega (arith, signed_arith, p))

earlier : (a b : Date) → pos 0 ≤ℤ a.year → IsEarlier a b → day_number a < day_number b
unfolding day_number
earlier a b p (inl year) =
    omega (arith, abs_lt a.year b.year p year, a.month_in, a.day_in, days_in_month_bounds a.year a.month)
earlier a b p (inr (year, inl month)) =
    let same : unsigned_abs a.year ≡ unsigned_abs b.year = ap unsigned_abs year in
    omega (arith, same, month, a.day_in, days_in_month_bounds a.year a.month)
earlier a b p (inr (year, inr (month, day))) =
    let same : unsigned_abs a.year ≡ unsigned_abs b.year = ap unsigned_abs year in
    omega (arith, same, month, day)

same_number : (a b : Date) → a.year ≡ b.year → a.month ≡ b.month → a.day ≡ b.day → day_number a ≡ day_number b
unfolding day_number
same_number a b y m d = let same : unsigned_abs a.year ≡ unsigned_abs b.year = ap unsigned_abs y in omega (arith, same, m, d)

abbrev Order : ℤ → ℤ → ℤ → ℤ → Type 0
Order a b x y = ((a <ℤ b) × (x <ℤ y)) ⊎ (((b <ℤ a) × (y <ℤ x)) ⊎ ((a ≡ b) × (x ≡ y)))

order : (a b : DateTime) → IsWhole a → IsWhole b →
    Order (civil_nanos a) (civil_nanos b) (pos (second_number (moment_of a))) (pos (second_number (moment_of b)))
order a b p q =
    elim (cases_date a.date b.date) [
      | inl lt ↦ inl (
        civil_nanos-lt a b (epoch_day-lt a.date b.date lt),
        omega (arith, signed_arith, earlier a.date b.date p.year lt, at_day a, at_day b, in_day a.time),
      )
      | inr (inl gt) ↦ inr (inl (
        civil_nanos-lt b a (epoch_day-lt b.date a.date gt),
        omega (arith, signed_arith, earlier b.date a.date q.year gt, at_day a, at_day b, in_day b.time),
      ))
      | inr (inr same) ↦
          let day : epoch_day a.date ≡ epoch_day b.date = epoch_day_same a.date b.date same.0 same.1 same.2 in
          let number : day_number a.date ≡ day_number b.date = same_number a.date b.date same.0 same.1 same.2 in
          elim (cases_order (time_seconds a.time) (time_seconds b.time)) [
            | inl e ↦ inr (inr (
              omega
                  (arith, signed_arith, civil_nanos-parts a, civil_nanos-parts b, p.second, q.second),
              omega (arith, signed_arith, at_day a, at_day b),
            ))
            | inr (inl lt) ↦ inl (
              omega
                  (arith, signed_arith, civil_nanos-parts a, civil_nanos-parts b, p.second, q.second),
              omega (arith, signed_arith, at_day a, at_day b),
            )
            | inr (inr gt) ↦ inr (inl (
              omega (arith, signed_arith, civil_nanos-parts a, civil_nanos-parts b, p.second, q.second),
              omega (arith, signed_arith, at_day a, at_day b),
            ))
          ]
    ]

pos_cmp : (m n : ℕ) → int_cmp (pos m) (pos n) ≡ nat_cmp m n
pos_cmp m n = grind (arith, ints)

pos_eq : (m n : ℕ) → int_eq (pos m) (pos n) ≡ nat_eq m n
pos_eq m n = grind (arith, ints)

-- whole seconds are ordered as their moments are
pub moment_cmp : (a b : DateTime) → IsWhole a → IsWhole b →
    int_cmp (civil_nanos a) (civil_nanos b) ≡ nat_cmp (second_number (moment_of a)) (second_number (moment_of b))
moment_cmp a b p q = (cmp_agrees _ _ _ _ (order a b p q)).0 ∙ pos_cmp (second_number (moment_of a)) (second_number (moment_of b))

-- whole seconds are equal where their moments are
pub moment_eq : (a b : DateTime) → IsWhole a → IsWhole b →
    int_eq (civil_nanos a) (civil_nanos b) ≡ nat_eq (second_number (moment_of a)) (second_number (moment_of b))
moment_eq a b p q = (cmp_agrees _ _ _ _ (order a b p q)).1 ∙ pos_eq (second_number (moment_of a)) (second_number (moment_of b))
