-- Moments with one number are one.
use Rattle.std.proofs.Common.{◌≡◌, ℕ, ◌+◌, ◌*◌, ◌/◌, ◌%◌, ◌<◌, sym, ap, ◌∙◌, arith}
use Rattle.std.proofs.lemmas.Nat.{div-mul-add, mod-mul-add}
use Rattle.rpki_der.specs.Times.{Moment, IsMoment, second_number}
use Rattle.rpki_der.proofs.WrittenOctets.{days}

-- a number has one last digit in a base, and one front
one_digit : (base a b x y : ℕ) → x < base → y < base → a * base + x ≡ b * base + y → (a ≡ b) × (x ≡ y)
one_digit base a b x y p q e = (
  sym (div-mul-add a base x p) ∙ ap (λ (n : ℕ). n / base) e ∙ div-mul-add b base y q,
  sym (mod-mul-add a base x p) ∙ ap (λ (n : ℕ). n % base) e ∙ mod-mul-add b base y q,
)

-- moments with one number of seconds are one
pub one_moment : (m n : Moment) → IsMoment m → IsMoment n → second_number m ≡ second_number n → m ≡ n
one_moment m n p q e =
    let second = one_digit 60 _ _ m.second n.second p.second q.second e in
    let minute = one_digit 60 _ _ m.minute n.minute p.minute q.minute second.0 in
    let hour = one_digit 24 _ _ m.hour n.hour p.hour q.hour minute.0 in
    let day = one_digit 32 _ _ m.day n.day (omega (arith, p.day, days m.year m.month)) (omega (arith, q.day, days n.year n.month)) hour.0 in
    let month = one_digit 13 m.year n.year m.month n.month (omega (arith, p.month)) (omega (arith, q.month)) day.0 in
    λ i. record { year = month.0 i; month = month.1 i; day = day.1 i; hour = hour.1 i; minute = minute.1 i; second = second.1 i }
