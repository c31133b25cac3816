use Rattle.std.proofs.Common.{arith}
use Rattle.rpki_keys.specs.Octets.{os2ip}
use Rattle.rpki_keys.proofs.ValidSignatures.{place-below, verified-iff}
use Rattle.rpki_keys.proofs.verifying.recovers.Goals as goal

pub power-requires-clause-large : goal.power-requires-clause-large
power-requires-clause-large c = rw c.read.ensures.number (place-below (os2ip c.args.modulus.now) c.requires.size.low c.requires.size.odd)

pub returns : goal.returns
returns c =
    let n = c.args.modulus.now in
    let s = c.args.signature.now in
    let below = rw c.read.ensures.number at c.in-Some.ensures.0.1 in
    let power = rw (c.read.ensures.number, c.in-Some.ensures.1) at c.power.ensures in
    verified-iff (os2ip n) _ _ c.args.message.now s c.encode.result c.is_equal.result c.requires.size.high c.requires.size.odd
    c.in-Some.ensures.0.0 below power c.encode.ensures (omega arith) c.read-2.ensures.octets c.read-2.ensures.number c.is_equal.ensures
