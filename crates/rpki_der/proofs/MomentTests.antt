-- The test of a moment, both ways.
use Rattle.std.specs.Prelude.{IsSome, IfSome, ◌↔◌}
use Rattle.std.specs.Option.{ok_or}
use Rattle.std.proofs.Common.{◌≡◌, ◌≢◌, true, false, cond, Option, Some, None, refl, sym, ap, inl, inr}
use Rattle.std.proofs.lemmas.Bool.{leb-true, ltb-true, lt-ltb, le-leb, and_parts, and_from, cases_Bool}
use Rattle.rpki_der.specs.declared.error.DecodeError.{DecodeError}
use Rattle.rpki_der.specs.declared.error.DecodeError.TheVariants.{Memory}
use Rattle.rpki_der.specs.Place.Reading.{Returns}
use Rattle.rpki_der.specs.Times.{Moment, IsMoment, days_in_month}
use Rattle.rpki_der.specs.Times.Reading.{is_moment}

-- a moment that passes the test exists
pub moment_exists : (m : Moment) → is_moment m ≡ true → IsMoment m
unfolding is_moment
moment_exists m e =
    let day = and_parts _ _ e in
    let month = and_parts _ _ day.0 in
    let year = and_parts _ _ month.0 in
    let clock = and_parts _ _ day.1 in
    let later = and_parts _ _ clock.1 in
    let a = and_parts _ _ year.1 in
    let b = and_parts _ _ month.1 in
    record {
      year = ltb-true m.year 10000 year.0;
      month = (leb-true 1 m.month a.0, leb-true m.month 12 a.1);
      day = (leb-true 1 m.day b.0, leb-true m.day (days_in_month m.year m.month) b.1);
      hour = ltb-true m.hour 24 clock.0;
      minute = ltb-true m.minute 60 later.0;
      second = ltb-true m.second 60 later.1;
    }

-- a moment that exists passes the test
pub exists_moment : (m : Moment) → IsMoment m → is_moment m ≡ true
unfolding is_moment
exists_moment m h =
    and_from _ _
    (and_from _ _ (and_from _ _ (lt-ltb m.year 10000 h.year)
    (and_from _ _ (le-leb 1 m.month h.month.0) (le-leb m.month 12 h.month.1)))
    (and_from _ _ (le-leb 1 m.day h.day.0) (le-leb m.day (days_in_month m.year m.month) h.day.1)))
    (and_from _ _ (lt-ltb m.hour 24 h.hour) (and_from _ _ (lt-ltb m.minute 60 h.minute) (lt-ltb m.second 60 h.second)))

-- a function that answers exactly the moments that exist
pub gives_moment : (o : Option Moment) (m : Moment) (d : DecodeError) → IsSome o ↔ IsMoment m →
    IfSome o (λ t. t ≡ m) → d ≢ Memory → Returns (ok_or o d) (cond (is_moment m) (Some m) None)
gives_moment None m d exists value other =
    elim (cases_Bool (is_moment m)) [
      | inl y ↦ absurd (none (exists.1 (moment_exists m y)))
      | inr n ↦ (other, rw n refl)
    ]
  where
    none : false ≡ true → ⊥
    none e = absurd cc
gives_moment (Some t) m d exists value other = rw (exists_moment m (exists.0 refl)) (ap (λ (x : Moment). Some x) (sym value))
