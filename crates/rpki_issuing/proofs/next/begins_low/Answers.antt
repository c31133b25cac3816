use Rattle.std.proofs.Common.{◌<◌, get_or, ℕ, arith}
use Rattle.rpki_der.proofs.Octets.{AreOctets-each}
use Rattle.rpki_issuing.proofs.TwentyOctets.{first_low, low_first_bit}
use Rattle.rpki_issuing.proofs.next.begins_low.Goals as goal

pub returns : goal.returns
returns c =
    let octets = c.args.octets.now in
    let fits : (i : ℕ) → get_or octets i 0 < 256 = λ i. omega (arith, c.type_inv.octets i) in
    (first_low octets (AreOctets-each octets fits) c.requires, low_first_bit octets c.requires)
