use Rattle.std.proofs.Common.{◌≡◌, ◌<◌, ◌%◌, ◌^◌, ℕ, List, [], ◌∷◌, eqb, length, refl, ap, sym, ◌∙◌, arith}
use Rattle.std.specs.Int.Digits.{number_from_digits}
use Rattle.std.proofs.lemmas.Bool.{lt-ltb}
use Rattle.std.proofs.lemmas.Nat.{one_shl}
use Rattle.rpki_der.specs.Primitives.Reading.{has_zero_bits}
use Rattle.rpki_der.proofs.PrimitiveReads.{last_octet}
use Rattle.rpki_der.proofs.bits.has_zero_bits.Goals as goal

by_number : (unused : ℕ) (octets : List ℕ) → unused < 8 → 0 < length octets →
    has_zero_bits unused octets ≡ eqb (number_from_digits 256 octets % 2 ^ unused) 0
by_number unused [] few some_octet = absurd (omega arith)
by_number unused (b ∷ octets) few some_octet = rw (lt-ltb unused 8 few) refl

pub returns-then-unused-lt8 : goal.returns-then-unused-lt8
returns-then-unused-lt8 c =
    let unused = c.args.unused in
    let octets = c.args.octets.now in
    let few : c.args.unused < 8 = c.if-unused-lt8.true in
    let some_octet : 0 < length octets = omega arith in
    rw (one_shl unused 8 few) (ap (λ (n : ℕ). eqb n 0) (sym (last_octet unused octets few some_octet)) ∙
    sym (by_number unused octets few some_octet))
