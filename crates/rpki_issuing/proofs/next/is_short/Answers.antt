use Rattle.std.proofs.Common.{◌<◌, ◌^◌, ℕ, subst, sym}
use Rattle.rpki_issuing.proofs.TwentyOctets.{short_number, number_short}
use Rattle.rpki_issuing.proofs.next.is_short.Goals as goal

pub returns : goal.returns
returns c =
    let number = c.args.number in
    let is = c.octets.ensures.number in (
      (λ on. short_number number (subst (λ (n : ℕ). n < 2 ^ 159) is (c.begins_low.ensures.0 on))),
      (λ few. c.begins_low.ensures.1 (subst (λ (n : ℕ). n < 2 ^ 159) (sym is) (number_short number few))),
    )
