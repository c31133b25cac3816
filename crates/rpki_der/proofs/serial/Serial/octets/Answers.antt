use Rattle.std.specs.Int.{bytes_high_first}
use Rattle.std.specs.Int.Digits.{number_from_digits_after}
use Rattle.std.proofs.Common.{◌≡◌, ◌+◌, ◌*◌, ◌%◌, ◌^◌, ◌∙◌, arith}
use Rattle.rpki_der.proofs.HighFirst.{number_high_first}
use Rattle.rpki_der.proofs.serial.Serial.octets.Goals as goal

pub returns-clause-number : goal.returns-clause-number
returns-clause-number c =
    let high = c.self.inside.high in
    let low = c.self.inside.low in
    let front = number_from_digits_after 256 0 (bytes_high_first 4 high) in
    let front_is : front ≡ 0 * 256 ^ 4 + high % 256 ^ 4 = number_high_first 4 0 high in
    let whole : number_from_digits_after 256 front (bytes_high_first 16 low) ≡ front * 256 ^ 16 + low % 256 ^ 16 =
    number_high_first 16 front low in
    let high_is : front * 256 ^ 16 + low % 256 ^ 16 ≡ c.args.self.now = omega (arith, front_is, c.self.view_is) in
    rw (c.copy_from_slice.ensures.after, c.copy_from_slice-2.ensures.after, c.to_be_bytes.ensures, c.to_be_bytes-2.ensures)
    (whole ∙ high_is)
