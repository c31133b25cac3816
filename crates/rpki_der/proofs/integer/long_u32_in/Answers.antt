use Rattle.std.proofs.Common.{◌≡◌, ◌^◌, take, arith}
use Rattle.std.specs.Int.Digits.{number_from_digits}
use Rattle.std.proofs.lemmas.Int.Digits.{number_more}
use Rattle.rpki_der.proofs.PrimitiveReads.{number_grows, too_large}
use Rattle.rpki_der.proofs.integer.long_u32_in.Goals as goal

pub returns-then-number-ge16777216 : goal.returns-then-number-ge16777216
returns-then-number-ge16777216 c =
    let octets = c.args.content.now in
    let so_far : c.loop-octet.number ≡ number_from_digits 256 (take c.loop-octet.octet-index octets) = c.loop-octet.invariant in
    (λ e. absurd cc, too_large (2 ^ 32) octets (omega (arith, so_far, number_grows octets c.loop-octet.octet-index (omega arith))))

pub loop-octet-preserved : goal.loop-octet-preserved
loop-octet-preserved c =
    let so_far : c.loop-octet.number ≡ number_from_digits 256 (take c.loop-octet.octet-index c.args.content.now) = c.loop-octet.invariant in
    omega (arith, so_far, number_more 256 c.args.content.now c.loop-octet.octet-index (omega arith))
