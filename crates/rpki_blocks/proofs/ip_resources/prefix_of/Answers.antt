use Rattle.std.proofs.Common.{◌≤◌, ◌*◌, ◌-◌, Some, ap, sym, length, arith}
use Rattle.std.proofs.lemmas.Bool.{le-ltb}
use Rattle.rpki_blocks.specs.Addresses.{lower}
use Rattle.rpki_blocks.specs.Prefixes.{IsPrefixBlock}
use Rattle.rpki_blocks.proofs.FirstBits.{prefix_is}
use Rattle.rpki_blocks.proofs.ip_resources.prefix_of.Goals as goal

pub returns : goal.returns
returns c =
    let octets = c.args.octets.now in
    let fits : 8 * length octets ≤ c.args.bits = omega arith in
    let block : IsPrefixBlock (lower octets) (8 * length octets - c.args.unused) c.from.result =
    rw (c.new.ensures.address, c.new.ensures.length, c.lower.ensures) at c.from.ensures in
    rw (le-ltb c.args.bits (8 * length octets) fits)
    (ap Some (sym
    (prefix_is c.args.unused octets c.requires.few c.requires.none c.requires.zero_bits (omega arith)
    c.from.result block)))
