use Rattle.std.proofs.Common.{◌+◌, ◌/◌, arith}
use Rattle.std.proofs.lemmas.Nat.{leading_length}
use Rattle.rpki_crl.proofs.Buckets.{below_power, power_below}
use Rattle.rpki_crl.proofs.table.bits_for.Goals as goal

pub returns-clause-few : goal.returns-clause-few
returns-clause-few c =
    let top = leading_length 64 (c.args.serials / 4) (omega (arith, c.ranges.serials)) in
    power_below 64 _ top.0 (c.args.serials / 2 + 1) top.1 (omega (arith, top.3))

pub returns-clause-many : goal.returns-clause-many
returns-clause-many c =
    let top = leading_length 64 (c.args.serials / 4) (omega (arith, c.ranges.serials)) in
    below_power 64 _ top.0 (c.args.serials / 4) top.1 top.2
