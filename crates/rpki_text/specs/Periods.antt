-- What is said of a period at a moment: what time is left of it, or gone since (own).
use Rattle.std.specs.Fmt.{decimal}
use Rattle.std.specs.Prelude.{ℕ, ◌/◌, ◌%◌, ◌-ℤ◌, Bool, nat_le, nat_lt, if◌then◌else◌, List, ◌++◌, codes, unsigned_abs}
use Rattle.rpki_der.specs.Texts.{time_text}
use Rattle.rpki_der.specs.Times.{Moment, second_number}
use Rattle.rpki_der.specs.Timestamps.{timestamp}

-- how many seconds lie between two moments; no day has a leap second
abbrev pub seconds_between : Moment → Moment → ℕ
seconds_between m n = unsigned_abs (timestamp m -ℤ timestamp n)

-- so many seconds: from 48 hours on in days of 86,400 seconds, from an hour on in hours and
-- minutes, from a minute on in minutes, else in seconds; what is left over isn't told
abbrev pub duration_text : ℕ → List ℕ
duration_text s =
    if nat_le 172_800 s then decimal (s / 86_400) ++ codes " days"
    else (if nat_le 3_600 s then decimal (s / 3_600) ++ (codes " h " ++ (decimal ((s % 3_600) / 60) ++ codes " min"))
    else (if nat_le 60 s then decimal (s / 60) ++ codes " min" else decimal s ++ codes " s"))

-- whether a moment is earlier than another
abbrev pub is_before : Moment → Moment → Bool
is_before m n = nat_lt (second_number m) (second_number n)

-- of a period that is over: the word for that, and since when; of one that hasn't begun: when it
-- will; else the word for its end, and what time is left
abbrev pub state_text : List ℕ → List ℕ → Moment → Moment → Moment → List ℕ
state_text ends ended from until now =
    if is_before until now then ended ++ (codes " " ++ (duration_text (seconds_between now until) ++ codes " ago"))
    else (if is_before now from then codes "not valid before " ++ time_text from
    else ends ++ (codes " in " ++ duration_text (seconds_between until now)))
