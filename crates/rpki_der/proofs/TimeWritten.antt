-- In which form a time is written.
use Rattle.std.specs.Prelude.{nat_le, nat_lt, ◌&&◌}
use Rattle.std.proofs.Common.{◌≡◌, ◌/◌, ◌%◌, ◌<◌, ◌≤◌, Bool, true, false, ◌++◌, ◌⊎◌, inl, inr, refl}
use Rattle.std.proofs.lemmas.Bool.{le-leb, lt-leb, lt-ltb, le-ltb}
use Rattle.rpki_der.specs.Times.{Moment, two, after_year, time}
use Rattle.rpki_der.specs.Values.{enc}
use Rattle.rpki_der.specs.Tags.{GENERALIZED_TIME, UTC_TIME}

-- a moment from 1950 to 2049 is written as UTCTime
pub utc_written : (m : Moment) → 1950 ≤ m.year → m.year < 2050 → time m ≡ enc UTC_TIME (two (m.year % 100) ++ after_year m)
unfolding time
utc_written m p q = rw (le-leb 1950 m.year p, lt-ltb m.year 2050 q) refl

-- a moment of another year is written as GeneralizedTime
pub generalized_written : (m : Moment) → (m.year < 1950) ⊎ (2050 ≤ m.year) →
    time m ≡ enc GENERALIZED_TIME (two (m.year / 100) ++ (two (m.year % 100) ++ after_year m))
unfolding time
generalized_written m (inl before) = rw (lt-leb 1950 m.year before) refl
generalized_written m (inr after) = rw (and_false (nat_le 1950 m.year) (nat_lt m.year 2050) (le-ltb m.year 2050 after)) refl
  where
    and_false : (a b : Bool) → b ≡ false → (a && b) ≡ false
    and_false true b e = e
    and_false false b e = refl
