use Rattle.std.proofs.Common.{◌≡◌, ◌+◌, ◌-◌, ◌*◌, ◌^◌, ◌<◌, ◌≤◌, min, length, get_or, ap, ◌∙◌, arith}
use Rattle.rpki_crl.proofs.Buckets.{few_buckets, many_buckets}
use Rattle.rpki_crl.proofs.table.scale_of.Goals as goal

pub returns-clause-scale : goal.returns-clause-scale
returns-clause-scale c =
    let xs = c.args.serials.now in
    let base = c.parts_of-base.result.0 in
    let least : c.in-Some-Some.least.now ≡ get_or xs 0 0 = c.in-Some-Some.ensures.item.4 (omega arith) 0 in
    let greatest : c.in-Some-Some.greatest.now ≡ get_or xs (length xs - 1) 0 = c.in-Some-Some.ensures'.item.4 (omega arith) 0 in
    let some : 0 < length xs = c.in-Some-Some.ensures.item.3.0 in
    let order : get_or xs 0 0 ≤ get_or xs (length xs - 1) 0 = c.requires 0 (length xs - 1) (omega arith) (omega (arith, some)) in
    let span = get_or xs (length xs - 1) 0 - base * 2 ^ 32 in
    let parts : c.saturating_sub.result * 2 ^ 32 + c.parts_of-front.result.1 ≡ span =
    omega (
      arith,
      least,
      greatest,
      order,
      c.octets.ensures.number,
      c.parts_of-base.ensures.front,
      c.octets-2.ensures.number,
      c.parts_of-front.ensures.front,
      c.parts_of-front.ensures.back,
      c.saturating_sub.ensures,
    ) in
    let shift = c.min-shift.ensures ∙ ap (λ n. min n 159) c.saturating_sub-2.ensures in
    let bits = c.bits_of-bits in
    record {
      base_is = omega (arith, least, c.octets.ensures.number, c.parts_of-base.ensures.front);
      few = few_buckets span bits.result c.bits_for.result c.min-shift.result (length xs)
          (omega (arith, parts, bits.ensures.below)) bits.ensures.most c.bits_for.ensures.few shift some;
      many = many_buckets span bits.result c.bits_for.result c.min-shift.result (length xs)
          (omega (arith, parts, bits.ensures.no_more)) bits.ensures.most c.bits_for.ensures.many shift;
    }
