use Rattle.std.specs.Int.{w32, w128, from_be_bytes}
use Rattle.std.specs.Int.Digits.{number_from_digits, number_from_digits_after}
use Rattle.std.proofs.Common.{◌≡◌, ◌+◌, ◌*◌, ◌^◌, length, take, drop, rules, sym, ap, ◌∙◌, arith}
use Rattle.std.proofs.lemmas.Int.Digits.{number_after_append}
use Rattle.std.proofs.lemmas.List.{take_all, length-take, length-drop, take-append-drop}
use Rattle.rpki_der.proofs.HighFirst.{bytes_number, number_behind}
use Rattle.rpki_der.proofs.serial.Serial.of_octets.Goals as goal

pub returns : goal.returns
returns c =
    let octets = c.args.octets.now in
    let long : length octets ≡ 20 = search rules in
    let front = take 4 octets in
    let back = drop 4 octets in
    let long_front : length front ≡ 4 = omega (arith, length-take 4 octets) in
    let long_back : length back ≡ 16 = omega (arith, length-drop 4 octets) in
    let low_octets : c.copy_from_slice-2.new.self ≡ back = c.copy_from_slice-2.ensures.after ∙ take_all 16 back (omega arith) in
    let high : c.from_be_bytes.result ≡ number_from_digits 256 front = c.from_be_bytes.ensures ∙
    ap (from_be_bytes w32) c.copy_from_slice.ensures.after ∙ bytes_number 3 front long_front in
    let low : c.from_be_bytes-2.result ≡ number_from_digits 256 back = c.from_be_bytes-2.ensures ∙
    ap (from_be_bytes w128) low_octets ∙ bytes_number 15 back long_back in
    let whole : number_from_digits 256 octets ≡ number_from_digits_after 256 (number_from_digits 256 front) back =
    ap (number_from_digits 256) (sym (take-append-drop 4 octets)) ∙ number_after_append 256 0 front back in
    let behind : number_from_digits_after 256 (number_from_digits 256 front) back ≡ number_from_digits 256 front * 256
    ^ 16 + number_from_digits 256 back = number_behind (number_from_digits 256 front) back ∙
    ap (λ n. number_from_digits 256 front * 256 ^ n + number_from_digits 256 back) long_back in
    omega (arith, high, low, whole, behind)
