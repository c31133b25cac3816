-- How long what is written is.
use Rattle.std.specs.Prelude.{nat_le, nat_lt, ◌&&◌}
use Rattle.std.proofs.Common.{ℕ, ◌+◌, ◌≤◌, List, ◌∷◌, ◌++◌, length, arith, inl, inr}
use Rattle.std.proofs.lemmas.List.{length-append}
use Rattle.rpki_der.specs.Values.{enc, length_octets}
use Rattle.rpki_der.specs.Times.{Moment, time}
use Rattle.rpki_der.specs.Tags.{BIT_STRING}
use Rattle.rpki_der.proofs.ValueWritten.{bool_cases, enc_longer}

-- a Time that is written has at most 17 octets
pub time_short : (m : Moment) → length (time m) ≤ 17
unfolding time enc length_octets
time_short m =
    elim (bool_cases (nat_le 1950 m.year && nat_lt m.year 2050)) [
      | inl t ↦ rw t (omega arith)
      | inr f ↦ rw f (omega arith)
    ]

-- bits are shorter than what they stand in
pub bits_longer : (front bits : List ℕ) → length bits + 1 ≤ length (front ++ enc BIT_STRING (0 ∷ bits))
bits_longer front bits = omega (arith, length-append front (enc BIT_STRING (0 ∷ bits)), enc_longer BIT_STRING (0 ∷ bits))

-- two Times that are written have at most 34 octets
pub two_times_short : (m n : Moment) → length (time m ++ time n) ≤ 34
two_times_short m n = omega (arith, length-append (time m) (time n), time_short m, time_short n)
