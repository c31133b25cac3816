use Rattle.rpki_keys.proofs.ValidSignatures.{signed-iff}
use Rattle.rpki_keys.proofs.verifying.verify.Goals as goal

pub returns-in-Some : goal.returns-in-Some
returns-in-Some c = signed-iff c.args.bits.now c.in-Some.modulus.now c.args.message.now c.args.signature.now
    c.recovers.result c.in-Some.ensures c.recovers.ensures

pub returns-in-None : goal.returns-in-None
returns-in-None c = (λ h. (cc), λ s. absurd (c.in-None.ensures s.n s.e s.key))
