use Rattle.std.proofs.Common.{◌≡◌, ◌<◌, ◌≤◌, ℕ, List, [], ◌∷◌, length, get_or, ap, sym, ◌∙◌, arith}
use Rattle.std.specs.Int.Digits.{digits_of, number_from_digits}
use Rattle.rpki_der.specs.Values.{AreOctets}
use Rattle.rpki_der.proofs.Digits.{digits_again}
use Rattle.rpki_der.proofs.integer.significant.Goals as goal

again : (ds : List ℕ) → AreOctets ds → 1 ≤ length ds → 0 < get_or ds 0 0 → digits_of 256 (number_from_digits 256 ds) ≡ ds
again [] h some_digit first = absurd (omega arith)
again (d ∷ ds) h some_digit first = digits_again d ds first h

pub returns-in_default-2 : goal.returns-in_default-2
returns-in_default-2 c =
    let i = c.loop-digits.invariant in
    let some_digit : 1 ≤ length c.loop-digits.digits.now = c.in_default.len_at_least in
    let significant : 0 < get_or c.loop-digits.digits.now 0 0 = omega arith in
    record { digits = sym (ap (digits_of 256) (sym i.same) ∙ again c.loop-digits.digits.now i.octets some_digit significant) }
