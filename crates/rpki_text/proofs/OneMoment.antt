-- A text says one moment at most.
use Rattle.std.proofs.Common.{◌≡◌, ℕ, ◌+◌, ◌%◌, ◌/◌, inl, inr, List, ◌++◌, length, cond, nat_eq, sym, ap, ◌∙◌, arith}
use Rattle.rpki_der.specs.Times.{Moment, two, fourteen_digits}
use Rattle.rpki_text.specs.MomentTexts.{date_digits, all_digits, IsMomentText}
use Rattle.rpki_text.proofs.DigitPlaces.{date_from, all_from}

-- two digits are those of one number
two_is : (m n : ℕ) (x y : List ℕ) → two m ++ x ≡ two n ++ y → (m ≡ n) × (x ≡ y)
two_is m n x y e =
    let high : 48 + m / 10 ≡ 48 + n / 10 = cc in
    let low : 48 + m % 10 ≡ 48 + n % 10 = cc in
    (omega arith, cc)

-- fourteen digits are those of one moment
same_digits : (m n : Moment) → fourteen_digits m ≡ fourteen_digits n → m ≡ n
same_digits m n e =
    let century = two_is (m.year / 100) (n.year / 100) _ _ e in
    let year = two_is (m.year % 100) (n.year % 100) _ _ century.1 in
    let month = two_is m.month n.month _ _ year.1 in
    let day = two_is m.day n.day _ _ month.1 in
    let hour = two_is m.hour n.hour _ _ day.1 in
    let minute = two_is m.minute n.minute _ _ hour.1 in
    let second = two_is m.second n.second _ _ minute.1 in
    let years : m.year ≡ n.year = omega (arith, century.0, year.0) in
    λ i. record { year = years i; month = month.0 i; day = day.0 i; hour = hour.0 i; minute = minute.0 i; second = second.0 i }

-- the digits of a text: which they are tells its length
abbrev digits_by : List ℕ → List ℕ
digits_by text = cond (nat_eq (length text) 10) (date_digits text) (cond (nat_eq (length text) 20) (all_digits text) text)

-- they are the moment's
digits_are : (m : Moment) (text : List ℕ) → IsMomentText m text → digits_by text ≡ fourteen_digits m
digits_are m text (inl date) = let size : length text ≡ 10 = ap length date.date in rw size (date_from m text date)
digits_are m text (inr (inl time)) = let size : length text ≡ 20 = ap length time in rw size (all_from m text time)
digits_are m text (inr (inr digits)) = let size : length text ≡ 14 = ap length digits in rw size digits

-- a text says one moment at most
pub one_moment : (m n : Moment) (text : List ℕ) → IsMomentText m text → IsMomentText n text → m ≡ n
one_moment m n text h k = same_digits m n (sym (digits_are m text h) ∙ digits_are n text k)
