use Rattle.std.specs.Int.Digits.{number_from_digits, digits_of}
use Rattle.std.proofs.Common.{◌^◌, ◌<◌, arith}
use Rattle.std.proofs.lemmas.Int.Digits.{length-digits_of-le}
use Rattle.rpki_der.specs.Primitives.{unsigned}
use Rattle.rpki_der.proofs.OnlyMemory.{only_memory}
use Rattle.rpki_der.proofs.RoundTrips.{unsigned_small}
use Rattle.rpki_der.proofs.serial.Serial.encode.Goals as goal

pub returns-clause-memory : goal.returns-clause-memory
returns-clause-memory c =
    let n = number_from_digits 256 c.octets.result in
    let below : n < 2 ^ 160 = omega (arith, c.octets.ensures.number, c.octets.ensures.below) in
    let digits = length-digits_of-le 256 20 n (omega arith) below in
    only_memory c.put_unsigned.result (unsigned (digits_of 256 n)) c.put_unsigned.ensures.too_long.0
    (omega (arith, digits, unsigned_small (digits_of 256 n)))
