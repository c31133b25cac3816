use Rattle.std.proofs.Common.{◌≡◌, pos, ◌*ℤ◌, ◌≤ℤ◌, true≢false, sym, arith, FitsSigned, w64}
use Rattle.jiff_core.specs.DateTime.{civil_nanos}
use Rattle.jiff_core.proofs.SignedLemmas.{signed_arith}
use Rattle.rpki_der.proofs.Timestamps.{in_calendar, year_shown, whole_second, exists_shown, number_shown}
use Rattle.rpki_der.proofs.time.Time.from_timestamp.Goals as goal

pub returns-in_default-clause-none : goal.returns-in_default-clause-none
returns-in_default-clause-none c = λ m h e.
    let fits : FitsSigned w64 c.args.seconds = c.ranges.seconds in
    absurd (true≢false (sym (c.in_default.ensures.succeeds.1 (omega (arith, signed_arith, in_calendar m c.args.seconds h e, fits)))))

pub returns-then-inner-lt0-clause-none : goal.returns-then-inner-lt0-clause-none
returns-then-inner-lt0-clause-none c = λ m h e.
    let fits : FitsSigned w64 c.args.seconds = c.ranges.seconds in
    let at : civil_nanos c.in-Ok.inner ≡ c.args.seconds *ℤ pos 1_000_000_000 = omega (arith, signed_arith, c.in-Ok.ensures.value, fits) in
    absurd (omega (arith, signed_arith, year_shown c.in-Ok.inner m c.args.seconds at h e, c.if-inner-lt0.true))

pub invariant_of-result : goal.invariant_of-result
invariant_of-result c =
    let fits : FitsSigned w64 c.args.seconds = c.ranges.seconds in
    let at : civil_nanos c.in-Ok.inner ≡ c.args.seconds *ℤ pos 1_000_000_000 = omega (arith, signed_arith, c.in-Ok.ensures.value, fits) in
    record { year = omega (arith, signed_arith, c.if-inner-lt0.false); second = (whole_second c.in-Ok.inner c.args.seconds at).1 }

pub returns-clause-some : goal.returns-clause-some
returns-clause-some c =
    let fits : FitsSigned w64 c.args.seconds = c.ranges.seconds in
    let at : civil_nanos c.in-Ok.inner ≡ c.args.seconds *ℤ pos 1_000_000_000 = omega (arith, signed_arith, c.in-Ok.ensures.value, fits) in
    let low : pos 0 ≤ℤ c.in-Ok.inner.date.year = omega (arith, signed_arith, c.if-inner-lt0.false) in
    (exists_shown c.in-Ok.inner low, number_shown c.in-Ok.inner c.args.seconds at low)
