use Rattle.std.proofs.Common.{◌≡◌, take, arith}
use Rattle.std.specs.Int.Digits.{number_from_digits}
use Rattle.std.proofs.lemmas.Int.Digits.{number_more}
use Rattle.rpki_der.proofs.PrimitiveReads.{number_grows}
use Rattle.rpki_keys.proofs.rsa.small_number.Goals as goal

pub returns-then-number-ge72057594037927936 : goal.returns-then-number-ge72057594037927936
returns-then-number-ge72057594037927936 c =
    let octets = c.args.octets.now in
    let so_far : c.loop-octet.number ≡ number_from_digits 256 (take c.loop-octet.octet-index octets) = c.loop-octet.invariant in
    omega (arith, so_far, number_grows octets c.loop-octet.octet-index (omega arith))

pub loop-octet-preserved : goal.loop-octet-preserved
loop-octet-preserved c =
    let so_far : c.loop-octet.number ≡ number_from_digits 256 (take c.loop-octet.octet-index c.args.octets.now) = c.loop-octet.invariant in
    omega (arith, so_far, number_more 256 c.args.octets.now c.loop-octet.octet-index (omega arith))
