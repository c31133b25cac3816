use Rattle.std.proofs.Common.{◌+◌, ◌*◌, ◌^◌, arith}
use Rattle.std.proofs.lemmas.Nat.{leading_length, leading_top, pow-add}
use Rattle.rpki_crl.proofs.Buckets.{below_power, power_below}
use Rattle.rpki_crl.proofs.table.bits_of.Goals as goal

pub returns-then-front-eq0-clause-below : goal.returns-then-front-eq0-clause-below
returns-then-front-eq0-clause-below c =
    let top = leading_length 32 c.args.back (omega (arith, c.ranges.back)) in
    below_power 32 _ top.0 (c.args.front * 2 ^ 32 + c.args.back) top.1 (omega (arith, top.2, c.if-front-eq0.true))

pub returns-else-front-eq0-clause-below : goal.returns-else-front-eq0-clause-below
returns-else-front-eq0-clause-below c =
    let top = leading_length 128 c.args.front (omega (arith, c.ranges.front)) in
    below_power 160 _ (top.0 + 32) (c.args.front * 2 ^ 32 + c.args.back) (omega (arith, top.1))
    (omega (arith, top.2, pow-add 2 top.0 32, c.ranges.back))

pub returns-then-front-eq0-clause-no_more : goal.returns-then-front-eq0-clause-no_more
returns-then-front-eq0-clause-no_more c =
    let top = leading_length 32 c.args.back (omega (arith, c.ranges.back)) in
    power_below 32 _ top.0 (2 * (c.args.front * 2 ^ 32 + c.args.back) + 1) top.1 (omega (arith, top.3, c.if-front-eq0.true))

pub returns-else-front-eq0-clause-no_more : goal.returns-else-front-eq0-clause-no_more
returns-else-front-eq0-clause-no_more c =
    let top = leading_top 128 c.args.front (omega (arith, c.if-front-eq0.false)) (omega (arith, c.ranges.front)) in
    power_below 160 _ (top.0 + 33) (2 * (c.args.front * 2 ^ 32 + c.args.back) + 1) (omega (arith, top.1))
    (omega (arith, top.2, pow-add 2 top.0 33))
