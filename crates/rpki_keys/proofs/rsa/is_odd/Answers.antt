use Rattle.rpki_keys.proofs.Sizes.{odd-iff}
use Rattle.rpki_keys.proofs.rsa.is_odd.Goals as goal

pub returns : goal.returns
returns c = odd-iff c.args.octets.now c.requires
