use Rattle.std.proofs.lemmas.Bool.{false≢true}
use Rattle.rpki_c.proofs.TwentyOctets.{twenty_below}
use Rattle.rpki_c.proofs.lists.number_of.Goals as goal

pub unreachable-requires : goal.unreachable-requires
unreachable-requires c =
    false≢true (c.in-None.ensures.some.1 (twenty_below c.args.octets.now c.told-octets (λ i. c.fits-octets i)))
