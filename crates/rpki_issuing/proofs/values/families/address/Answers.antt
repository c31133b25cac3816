use Rattle.std.proofs.Common.{sym, ap, ◌∙◌}
use Rattle.std.proofs.NetLemmas.Theorems.{IsIpv4Text_unique, IsIpv6Text_unique}
use Rattle.std.specs.Net.Addr.{ipv4_bits, ipv6_bits}
use Rattle.rpki_issuing.proofs.values.families.address.Goals as goal

pub returns-in-Ok-clause-one : goal.returns-in-Ok-clause-one
returns-in-Ok-clause-one c =
    let text = c.args.text.now in
    let a = c.in-Ok.address in
    rw c.in-V4.is (
      (a, c.in-Ok.ensures, c.to_bits.ensures),
      λ w is. is.2 ∙ ap ipv4_bits (IsIpv4Text_unique text is.0 a is.1 c.in-Ok.ensures) ∙ sym c.to_bits.ensures,
    )

pub returns-in-Err-clause-one : goal.returns-in-Err-clause-one
returns-in-Err-clause-one c = rw c.in-V4.is (λ v is. c.in-Err.ensures is.0 is.1)

pub returns-in-Ok-parse_ascii-clause-one : goal.returns-in-Ok-parse_ascii-clause-one
returns-in-Ok-parse_ascii-clause-one c =
    let text = c.args.text.now in
    let a = c.in-Ok-parse_ascii.address in
    let bits = c.to_bits-in-Ok-parse_ascii.ensures in
    rw c.in-V6.is (
      (a, c.in-Ok-parse_ascii.ensures, bits),
      λ w is. is.2 ∙ ap ipv6_bits (IsIpv6Text_unique text is.0 a is.1 c.in-Ok-parse_ascii.ensures) ∙ sym bits,
    )

pub returns-in-Err-parse_ascii-clause-one : goal.returns-in-Err-parse_ascii-clause-one
returns-in-Err-parse_ascii-clause-one c = rw c.in-V6.is (λ v is. c.in-Err-parse_ascii.ensures is.0 is.1)
