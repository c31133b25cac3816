use Rattle.std.specs.Int.Digits.{number_from_digits}
use Rattle.std.proofs.Common.{◌≡◌, ◌<◌, ◌-◌, ◌*◌, ◌^◌, ◌%◌, ℕ, length, ap, subst, ◌∙◌, arith}
use Rattle.std.proofs.lemmas.Int.Digits.{number_more}
use Rattle.std.proofs.lemmas.List.{take_all}
use Rattle.rpki_blocks.proofs.FirstBits.{room, one_octet, shift_fits}
use Rattle.rpki_blocks.proofs.ip_resources.lower.Goals as goal

pub overflow_mul-number : goal.overflow_mul-number
overflow_mul-number c =
    record {
      fits =
          omega (arith, room c.loop-octet.number c.loop-octet.octet-index c.loop-octet.invariant.below (omega arith));
    }

pub overflow_add-number : goal.overflow_add-number
overflow_add-number c =
    record {
      fits =
          omega (arith, room c.loop-octet.number c.loop-octet.octet-index c.loop-octet.invariant.below (omega arith));
    }

pub loop-octet-preserved : goal.loop-octet-preserved
loop-octet-preserved c = record {
  same = omega (arith, c.loop-octet.invariant.same, number_more 256 c.args.octets.now c.loop-octet.octet-index (omega arith));
  below = one_octet c.loop-octet.number c.from.result c.loop-octet.octet-index c.loop-octet.invariant.below (omega arith);
}

pub returns-in_default : goal.returns-in_default
returns-in_default c =
    let all : c.loop-octet.octet-index ≡ length c.args.octets.now = omega arith in
    let number : c.loop-octet.number ≡ number_from_digits 256 c.args.octets.now = c.loop-octet.invariant.same ∙
    ap (number_from_digits 256) (take_all c.loop-octet.octet-index c.args.octets.now (omega arith)) in
    let below : c.loop-octet.number < 256 ^ length c.args.octets.now =
    subst (λ (k : ℕ). c.loop-octet.number < 256 ^ k) all c.loop-octet.invariant.below in
    let small = shift_fits c.loop-octet.number (length c.args.octets.now) below c.requires in
    let rest : c.loop-octet.number * 2 ^ (128 - 8 * length c.args.octets.now) % 2 ^ 128 ≡
    c.loop-octet.number * 2 ^ (128 - 8 * length c.args.octets.now) = omega (arith, small) in
    rest ∙ ap (λ (k : ℕ). k * 2 ^ (128 - 8 * length c.args.octets.now)) number
