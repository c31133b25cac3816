use Rattle.rpki_keys.proofs.KeyFrames.{is-key-iff}
use Rattle.rpki_keys.proofs.key.is_rpki_key.Goals as goal

pub returns : goal.returns
returns c = is-key-iff (λ octets. octets.now) c.modulus.result c.args.bits.now c.is_some.result c.is_some.ensures c.modulus.ensures
