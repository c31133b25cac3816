use Rattle.std.proofs.Common.{◌≡◌, ◌<◌, ◌≤◌, ◌++◌, ◌%◌, ◌⊎◌, List, ℕ, take, drop, sym, ap, ◌∙◌, arith, inl, inr}
use Rattle.std.proofs.lemmas.Result.{on_ok_weaker}
use Rattle.rpki_der.specs.Times.{Moment, two, after_year}
use Rattle.rpki_der.specs.Values.{enc}
use Rattle.rpki_der.specs.Tags.{GENERALIZED_TIME, UTC_TIME}
use Rattle.rpki_der.proofs.TimeWritten.{utc_written, generalized_written}
use Rattle.rpki_der.proofs.time.Time.encode_varied.Goals.{else-year-ge1950-via-then-year-ge1950+else-year-lt2050}
use Rattle.rpki_der.proofs.time.Time.encode_varied.Goals.{else-year-ge1950-via-else-year-ge1950}
use Rattle.rpki_der.proofs.time.Time.encode_varied.Goals as goal

pub returns-then-year-lt2050-clause-ok : goal.returns-then-year-lt2050-clause-ok
returns-then-year-lt2050-clause-ok c =
    let m : Moment = c.args.self.now in
    let content : take 13 (drop 2 c.text-text.result) ≡ two (m.year % 100) ++ after_year m =
    ap (λ (s : List ℕ). take 13 (drop 2 s)) c.text-text.ensures.digits in
    let written = utc_written m (omega (arith, c.year-year.ensures.year, c.if-year-ge1950.true))
    (omega (arith, c.year-year.ensures.year, c.if-year-lt2050.true)) in
    on_ok_weaker c.put_value.result
    (λ e. e ∙ ap (λ (s : List ℕ). c.args.out.now.items ++ s) (ap (enc UTC_TIME) content ∙ sym written))
    c.put_value.ensures.ok

pub returns-else-year-ge1950-clause-ok : goal.returns-else-year-ge1950-clause-ok
returns-else-year-ge1950-clause-ok c =
    let m : Moment = c.args.self.now in
    let outside : (m.year < 1950) ⊎ (2050 ≤ m.year) = elim c.else-year-ge1950.branch [
      | else-year-ge1950-via-then-year-ge1950+else-year-lt2050 w ↦ inr (omega (arith, c.year-year.ensures.year, w.if-year-lt2050.false))
      | else-year-ge1950-via-else-year-ge1950 w ↦ inl (omega (arith, c.year-year.ensures.year, w.if-year-ge1950.false))
    ] in
    let written = generalized_written m outside in
    on_ok_weaker c.put_value-else-year-ge1950.result
    (λ e. e ∙ ap (λ (s : List ℕ). c.args.out.now.items ++ s)
    (ap (enc GENERALIZED_TIME) c.text-text.ensures.digits ∙ sym written))
    c.put_value-else-year-ge1950.ensures.ok
