-- A time that is read is the time that was written.
use Rattle.std.specs.Prelude.{nat_lt, nat_le, ◌&&◌, bytes_eq, if◌then◌else◌, Result, Ok, Err, IfSome, IfNone}
use Rattle.std.specs.Result.{result_ok}
use Rattle.std.proofs.Common.{◌≡◌, ℕ, suc, ◌+◌, ◌-◌, ◌*◌, ◌/◌, ◌%◌, ◌<◌, ◌≤◌, true, cond, List, [], ◌∷◌, ◌++◌, length}
use Rattle.std.proofs.Common.{get_or, drop, Option, Some, None, refl, sym, ap, subst, ◌∙◌, arith, inl, inr, drop-cons}
use Rattle.std.proofs.lemmas.Slice.Eq.{bytes_eq-Decides}
use Rattle.std.proofs.lemmas.Bool.{leb-true, le-leb, lt-ltb, le-ltb, and_parts, and_from, cases_lt, cases_Bool}
use Rattle.std.proofs.lemmas.List.{drop_all}
use Rattle.rpki_der.specs.Reading.{content, Reads, ReadsWhole, Inside, BeginWith}
use Rattle.rpki_der.specs.Values.Reading.{◌>>=◌}
use Rattle.rpki_der.specs.Encoding.{BeginsOther}
use Rattle.rpki_der.specs.Place.Reading.{Returns}
use Rattle.rpki_der.specs.declared.error.DecodeError.{DecodeError}
use Rattle.rpki_der.specs.Times.{Moment, moment, IsMoment, IsTime, two, day_and_time, after_year, fourteen_digits}
use Rattle.rpki_der.specs.Choices.{Either}
use Rattle.rpki_der.specs.Times.Reading.{is_digit, two_at, IsPair, full_year, existing, after_year_of, utc_of}
use Rattle.rpki_der.specs.Times.Reading.{moment_at, generalized_of, time_at, is_moment}
use Rattle.rpki_der.specs.Values.{enc}
use Rattle.rpki_der.specs.Tags.{GENERALIZED_TIME, UTC_TIME}
use Rattle.rpki_der.proofs.Choices.{choice_reads}
use Rattle.rpki_der.proofs.Readings.{content_reads, same_reads}
use Rattle.rpki_der.proofs.MomentTests.{moment_exists, exists_moment}
use Rattle.rpki_der.proofs.Octets.{bind_some, if_some}
use Rattle.rpki_der.proofs.WrittenOctets.{days}

-- two digits, and what follows them
abbrev IsTwo : List ℕ → ℕ → List ℕ → Type 0
IsTwo text n rest = (text ≡ two n ++ rest) × (n < 100)

heads : {a b c d : ℕ} {x y : List ℕ} → a ≡ c → b ≡ d → x ≡ y → a ∷ b ∷ x ≡ c ∷ d ∷ y
heads p q r = cc

two_takes : (text : List ℕ) (n : ℕ) (rest : List ℕ) → two_at text ≡ Some (n, rest) → IsTwo text n rest
unfolding two_at
two_takes [] n rest e = absurd cc
two_takes (a ∷ []) n rest e = absurd cc
two_takes (a ∷ b ∷ text) n rest e =
    let g = if_some (is_digit a && is_digit b) ((a - 48) * 10 + (b - 48), text) (n, rest) e in
    let tests = and_parts (is_digit a) (is_digit b) g.0 in
    let first = and_parts (nat_le 48 a) (nat_le a 57) tests.0 in
    let second = and_parts (nat_le 48 b) (nat_le b 57) tests.1 in
    let a_low : 48 ≤ a = leb-true 48 a first.0 in
    let a_high : a ≤ 57 = leb-true a 57 first.1 in
    let b_low : 48 ≤ b = leb-true 48 b second.0 in
    let b_high : b ≤ 57 = leb-true b 57 second.1 in
    let number : (a - 48) * 10 + (b - 48) ≡ n = ap (λ (x : ℕ × List ℕ). x.0) g.1 in
    let same : text ≡ rest = ap (λ (x : ℕ × List ℕ). x.1) g.1 in
    (heads (omega arith) (omega arith) same, omega arith)

two_again : (n : ℕ) (rest : List ℕ) → n < 100 → two_at (two n ++ rest) ≡ Some (n, rest)
unfolding two_at
two_again n rest h =
    let tens : is_digit (48 + n / 10) ≡ true = and_from _ _ (le-leb 48 (48 + n / 10) (omega arith))
    (le-leb (48 + n / 10) 57 (omega arith)) in
    let ones : is_digit (48 + n % 10) ≡ true = and_from _ _ (le-leb 48 (48 + n % 10) (omega arith))
    (le-leb (48 + n % 10) 57 (omega arith)) in
    let number : (48 + n / 10 - 48) * 10 + (48 + n % 10 - 48) ≡ n = omega arith in
    rw (tens, ones, number) refl

-- what they are, where their number and what follows them are known
two_before : (text : List ℕ) (n k : ℕ) (rest tail : List ℕ) → IsTwo text n rest → k ≡ n → rest ≡ tail → text ≡ two k ++ tail
two_before text n k rest tail h same e = h.0 ∙ ap (λ (x : List ℕ). two n ++ x) e ∙ ap (λ (i : ℕ). two i ++ tail) (sym same)

next_two : (text : List ℕ) (n : ℕ) (rest tail : List ℕ) → two_at text ≡ Some (n, rest) → rest ≡ tail → text ≡ two n ++ tail
next_two text n rest tail e h = two_before text n n rest tail (two_takes text n rest e) refl h

-- five times two digits, and what ends the text
five_before : (month day hour minute second : ℕ) (t0 t1 t2 t3 t4 t5 tail : List ℕ)
    → two_at t0 ≡ Some (month, t1) → two_at t1 ≡ Some (day, t2) → two_at t2 ≡ Some (hour, t3) →
    two_at t3 ≡ Some (minute, t4) → two_at t4 ≡ Some (second, t5) → t5 ≡ tail
    → t0 ≡ two month ++ (two day ++ (two hour ++ (two minute ++ (two second ++ tail))))
five_before month day hour minute second t0 t1 t2 t3 t4 t5 tail e1 e2 e3 e4 e5 end =
    next_two t0 month t1 _ e1
    (next_two t1 day t2 _ e2
    (next_two t2 hour t3 _ e3 (next_two t3 minute t4 _ e4 (next_two t4 second t5 tail e5 end))))

-- the steps after the year
abbrev from_second : List ℕ → ℕ → ℕ → ℕ → ℕ → ℕ → List ℕ → Option Moment
from_second end year month day hour minute text = two_at text >>= λ s.
    existing end s.1 (record { year = year; month = month; day = day; hour = hour; minute = minute; second = s.0 })

abbrev from_minute : List ℕ → ℕ → ℕ → ℕ → ℕ → List ℕ → Option Moment
from_minute end year month day hour text = two_at text >>= λ s. from_second end year month day hour s.0 s.1

abbrev from_hour : List ℕ → ℕ → ℕ → ℕ → List ℕ → Option Moment
from_hour end year month day text = two_at text >>= λ s. from_minute end year month day s.0 s.1

abbrev from_day : List ℕ → ℕ → ℕ → List ℕ → Option Moment
from_day end year month text = two_at text >>= λ s. from_hour end year month s.0 s.1

-- the text after the year of a moment that exists, and then the end
record IsAfterYear (end : List ℕ) (year : ℕ) (text : List ℕ) (m : Moment) : Type 0 where
  exists : IsMoment m
  year_is : m.year ≡ year
  text_is : text ≡ day_and_time m ++ end

after_takes : (end : List ℕ) (year : ℕ) (text : List ℕ) (m : Moment) → after_year_of end year text ≡ Some m → IsAfterYear end year text m
unfolding after_year_of
after_takes end year text m e =
    let month = bind_some (two_at text) (λ s. from_day end year s.0 s.1) m e in
    let day = bind_some (two_at month.0.1) (λ s. from_hour end year month.0.0 s.0 s.1) m month.2 in
    let hour = bind_some (two_at day.0.1) (λ s. from_minute end year month.0.0 day.0.0 s.0 s.1) m day.2 in
    let minute = bind_some (two_at hour.0.1) (λ s. from_second end year month.0.0 day.0.0 hour.0.0 s.0 s.1) m hour.2 in
    let found : ℕ → Moment =
    λ s. record {
      year = year;
      month = month.0.0;
      day = day.0.0;
      hour = hour.0.0;
      minute = minute.0.0;
      second =
          s;
    } in
    let second = bind_some (two_at minute.0.1) (λ s. existing end s.1 (found s.0)) m minute.2 in
    let last = if_some (bytes_eq second.0.1 end && is_moment (found second.0.0)) (found second.0.0) m second.2 in
    let tests = and_parts (bytes_eq second.0.1 end) (is_moment (found second.0.0)) last.0 in
    let ends : second.0.1 ≡ end = (bytes_eq-Decides second.0.1 end).0 tests.0 in
    let all = five_before month.0.0 day.0.0 hour.0.0 minute.0.0 second.0.0 text month.0.1 day.0.1 hour.0.1 minute.0.1
    second.0.1 end month.1 day.1 hour.1 minute.1 second.1 ends in
    subst (λ (n : Moment). IsAfterYear end year text n) {x = found second.0.0} last.1
    (record { exists = moment_exists (found second.0.0) tests.1; year_is = refl; text_is = all })

after_again : (end : List ℕ) (m : Moment) → IsMoment m → after_year_of end m.year (day_and_time m ++ end) ≡ Some m
unfolding after_year_of
after_again end m h =
    let ends : bytes_eq end end ≡ true = (bytes_eq-Decides end end).1 refl in
    let day : m.day < 100 = omega (arith, h.day, days m.year m.month) in
    rw (
      two_again m.month _ (omega (arith, h.month)),
      two_again m.day _ day,
      two_again m.hour _ (omega (arith, h.hour)),
      two_again m.minute _ (omega (arith, h.minute)),
      two_again m.second _ (omega (arith, h.second)),
      ends,
      exists_moment m h,
    ) refl

-- ---- whole contents

-- the text is the content of a moment's UTCTime
record IsUtcText (m : Moment) (text : List ℕ) : Type 0 where
  exists : IsMoment m
  from : 1950 ≤ m.year
  below : m.year < 2050
  text_is : text ≡ two (m.year % 100) ++ after_year m

century_near : (year : ℕ) → year < 100 → (1950 ≤ full_year year) × (full_year year < 2050) × (full_year year % 100 ≡ year)
century_near year h =
    elim (cases_lt year 50) [
      | inl l ↦ rw (lt-ltb year 50 l) (omega arith, omega arith, omega arith)
      | inr g ↦ rw (le-ltb year 50 g) (omega arith, omega arith, omega arith)
    ]

century_again : (year : ℕ) → 1950 ≤ year → year < 2050 → full_year (year % 100) ≡ year
century_again year p q =
    elim (cases_lt (year % 100) 50) [
      | inl l ↦ rw (lt-ltb (year % 100) 50 l) (omega arith)
      | inr g ↦ rw (le-ltb (year % 100) 50 g) (omega arith)
    ]

utc_takes : (text : List ℕ) (m : Moment) → utc_of text ≡ Some m → IsUtcText m text
unfolding utc_of
utc_takes text m e =
    let year = bind_some (two_at text) (λ s. after_year_of (90 ∷ []) (full_year s.0) s.1) m e in
    let front = two_takes text year.0.0 year.0.1 year.1 in
    let rest = after_takes (90 ∷ []) (full_year year.0.0) year.0.1 m year.2 in
    let near = century_near year.0.0 front.1 in
    let last : m.year % 100 ≡ year.0.0 = omega (arith, near.2, rest.year_is) in
    record {
      exists = rest.exists;
      from = omega (arith, near.0, rest.year_is);
      below = omega (arith, near.1, rest.year_is);
      text_is = two_before text year.0.0 (m.year % 100) year.0.1 (after_year m) front last rest.text_is;
    }

utc_whole : ReadsWhole utc_of IsUtcText
unfolding utc_of
utc_whole = record {
  takes = λ text m fits e. utc_takes text m e;
  again = λ m text s. rw (
    s.text_is,
    two_again (m.year % 100) (after_year m) (omega arith),
    century_again m.year s.from s.below,
  ) (after_again (90 ∷ []) m s.exists);
}

unlike : (text : List ℕ) (o : Option Moment) → utc_of text ≡ o → (length text ≡ 13 → get_or text 12 0 ≡ 90 → ⊥) → o ≡ None
unlike text None e other = refl
unlike text (Some m) e other = let is = (utc_takes text m e).text_is in
    absurd (other (ap length is) (ap (λ (t : List ℕ). get_or t 12 0) is))

-- the content of a UTCTime has thirteen octets, and Z at the end
pub utc_other : (text : List ℕ) → (length text ≡ 13 → get_or text 12 0 ≡ 90 → ⊥) → utc_of text ≡ None
utc_other text other = unlike text (utc_of text) refl other

-- ---- a UTCTime by its pairs of octets

-- the moment, if it exists
abbrev existent : Moment → Option Moment
existent m = cond (is_moment m) (Some m) None

-- a number below 100 is read, as it is in a moment that exists
small_read : (n : ℕ) (rest : List ℕ) (next : ℕ × List ℕ → Option Moment) (m : Moment) → (IsMoment m → n < 100) →
    next (n, rest) ≡ existent m → ((if nat_lt n 100 then Some (n, rest) else None) >>= next) ≡ existent m
small_read n rest next m small e = elim (cases_lt n 100) [
  | inl l ↦ rw (lt-ltb n 100 l) e
  | inr g ↦ elim (cases_Bool (is_moment m)) [
    | inl y ↦ let l = small (moment_exists m y) in absurd (omega (arith, l, g))
    | inr none ↦ rw (le-ltb n 100 g, none) refl
  ]
]

module _ (text : List ℕ) where
  -- two octets from place k on
  pair_read : (k n : ℕ) → suc k < length text → IsPair (get_or text k 0) (get_or text (suc k) 0) n →
      two_at (drop k text) ≡ (if nat_lt n 100 then Some (n, drop (suc (suc k)) text) else None)
  pair_read k n inside pair = rw (drop-cons text k 0 (omega arith), drop-cons text (suc k) 0 inside) (pair (drop (suc (suc k)) text))

  module _ (long : length text ≡ 13) (end : get_or text 12 0 ≡ 90) where
    last : drop 12 text ≡ 90 ∷ []
    last = rw (drop-cons text 12 0 (omega arith), end, drop_all 13 text (omega arith)) refl

    -- MMDDhhmmssZ by its pairs
    after_year_pairs : (year month day hour minute second : ℕ)
        → IsPair (get_or text 2 0) (get_or text 3 0) month → IsPair (get_or text 4 0) (get_or text 5 0) day →
        IsPair (get_or text 6 0) (get_or text 7 0) hour
        → IsPair (get_or text 8 0) (get_or text 9 0) minute → IsPair (get_or text 10 0) (get_or text 11 0) second
        → after_year_of (90 ∷ []) year (drop 2 text) ≡ existent (moment year month day hour minute second)
    unfolding after_year_of
    after_year_pairs year month day hour minute second p2 p4 p6 p8 p10 =
        let m : Moment = moment year month day hour minute second in
        let z : List ℕ = 90 ∷ [] in
        rw (pair_read 2 month (omega arith) p2)
        (small_read month (drop 4 text) (λ s. from_day z year s.0 s.1) m (λ h. omega (arith, h.month))
        (rw (pair_read 4 day (omega arith) p4)
        (small_read day (drop 6 text) (λ s. from_hour z year month s.0 s.1) m (λ h. omega (arith, h.day, days year month))
        (rw (pair_read 6 hour (omega arith) p6)
        (small_read hour (drop 8 text) (λ s. from_minute z year month day s.0 s.1) m (λ h. omega (arith, h.hour))
        (rw (pair_read 8 minute (omega arith) p8)
        (small_read minute (drop 10 text) (λ s. from_second z year month day hour s.0 s.1) m (λ h. omega (arith, h.minute))
        (rw (pair_read 10 second (omega arith) p10)
        (small_read second (drop 12 text) (λ s. existing z s.1 (moment year month day hour minute s.0)) m (λ h. omega (arith, h.second))
        (rw last refl))))))))))

    -- YYMMDDhhmmssZ by its pairs
    pub utc_pairs : (last year month day hour minute second : ℕ) → last < 100 → year ≡ full_year last
        → IsPair (get_or text 0 0) (get_or text 1 0) last → IsPair (get_or text 2 0) (get_or text 3 0) month →
        IsPair (get_or text 4 0) (get_or text 5 0) day
        → IsPair (get_or text 6 0) (get_or text 7 0) hour → IsPair (get_or text 8 0) (get_or text 9 0) minute →
        IsPair (get_or text 10 0) (get_or text 11 0) second
        → utc_of text ≡ existent (moment year month day hour minute second)
    unfolding utc_of
    utc_pairs last year month day hour minute second small whole p0 p2 p4 p6 p8 p10 =
        rw (pair_read 0 last (omega arith) p0, lt-ltb last 100 small, whole)
        (after_year_pairs (full_year last) month day hour minute second p2 p4 p6 p8 p10)

-- ---- digits that end otherwise

-- the digits of a moment that exists, and then the end
abbrev IsMomentText : List ℕ → Moment → List ℕ → Type 0
IsMomentText end m text = IsMoment m × (text ≡ fourteen_digits m ++ end)

moment_takes : (end text : List ℕ) (m : Moment) → moment_at end text ≡ Some m → IsMomentText end m text
unfolding moment_at
moment_takes end text m e =
    let century = bind_some (two_at text) (λ c. two_at c.1 >>= λ s. after_year_of end (c.0 * 100 + s.0) s.1) m e in
    let year = bind_some (two_at century.0.1) (λ s. after_year_of end (century.0.0 * 100 + s.0) s.1) m century.2 in
    let front = two_takes text century.0.0 century.0.1 century.1 in
    let next = two_takes century.0.1 year.0.0 year.0.1 year.1 in
    let rest = after_takes end (century.0.0 * 100 + year.0.0) year.0.1 m year.2 in
    let first : m.year / 100 ≡ century.0.0 = omega (arith, next.1, rest.year_is) in
    let last : m.year % 100 ≡ year.0.0 = omega (arith, next.1, rest.year_is) in
    let after = two_before century.0.1 year.0.0 (m.year % 100) year.0.1 (day_and_time m ++ end) next last rest.text_is in
    (rest.exists, two_before text century.0.0 (m.year / 100) century.0.1 (two (m.year % 100) ++ (day_and_time m ++ end)) front first after)

moment_again : (end : List ℕ) (m : Moment) (text : List ℕ) → IsMomentText end m text → moment_at end text ≡ Some m
unfolding moment_at
moment_again end m text s =
    let whole : m.year / 100 * 100 + m.year % 100 ≡ m.year = omega arith in
    rw (
      s.1,
      two_again (m.year / 100) (two (m.year % 100) ++ (day_and_time m ++ end)) (omega (arith, s.0.year)),
      two_again (m.year % 100) (day_and_time m ++ end) (omega arith),
      whole,
    ) (after_again end m s.0)

abbrev IsGeneralizedText : Moment → List ℕ → Type 0
IsGeneralizedText = IsMomentText (90 ∷ [])

generalized_whole : ReadsWhole generalized_of IsGeneralizedText
generalized_whole = record { takes = λ text m fits e. moment_takes (90 ∷ []) text m e; again = moment_again (90 ∷ []) }

-- ---- digits alone

digits_are : (text : List ℕ) (m : Moment) → IsMoment m → text ≡ fourteen_digits m → moment_at [] text ≡ Some m
digits_are text m exists is = moment_again [] m text (exists, is)

-- what is found in digits
pub found_digits : (text : List ℕ) (r : Result Moment DecodeError) → Returns r (moment_at [] text) →
    IfSome (result_ok r) (λ m. IsMoment m × (text ≡ fourteen_digits m))
found_digits text (Ok m) found = moment_takes [] text m found
found_digits text (Err e) rejected = tt

-- a text that isn't read as fourteen digits is that of no moment
pub no_digits : (text : List ℕ) (r : Result Moment DecodeError) → Returns r (moment_at [] text) →
    IfNone (result_ok r) ((m : Moment) → IsMoment m → text ≡ fourteen_digits m → ⊥)
no_digits text (Ok m) found = tt
no_digits text (Err e) rejected = λ m exists is.
    let found : moment_at [] text ≡ Some m = digits_are text m exists is in
    absurd cc

-- ---- the two forms

utc_begins : BeginWith UTC_TIME (Inside UTC_TIME IsUtcText)
unfolding enc
utc_begins m text s = (_, s.2.is)

generalized_other : (m : Moment) (text rest : List ℕ) → Inside GENERALIZED_TIME IsGeneralizedText m text →
    BeginsOther UTC_TIME (text ++ rest)
unfolding enc
generalized_other m text rest s = rw s.2.is (λ e. omega (arith, e))

-- a Time is read as it is encoded
pub time_reads : Reads time_at IsTime
unfolding time_at
time_reads =
    same_reads time_at (Either (Inside UTC_TIME IsUtcText) (Inside GENERALIZED_TIME IsGeneralizedText)) IsTime
    (choice_reads UTC_TIME (content UTC_TIME utc_of) (content GENERALIZED_TIME generalized_of)
    (Inside UTC_TIME IsUtcText) (Inside GENERALIZED_TIME IsGeneralizedText)
    (content_reads UTC_TIME utc_of IsUtcText utc_whole)
    (content_reads GENERALIZED_TIME generalized_of IsGeneralizedText generalized_whole)
    utc_begins generalized_other)
    (λ m text s. elim s [
      | inl a ↦ record { exists = a.1.exists; encoded = inl (a.1.from, a.1.below, rw (← a.1.text_is) a.2) }
      | inr a ↦ record { exists = a.1.0; encoded = inr (rw (← a.1.1) a.2) }
    ])
    (λ m text s. elim s.encoded [
      | inl a ↦ inl (two (m.year % 100) ++ after_year m, record { exists = s.exists; from = a.0; below = a.1; text_is = refl }, a.2)
      | inr a ↦ inr (two (m.year / 100) ++ (two (m.year % 100) ++ after_year m), (s.exists, refl), a)
    ])
