use Rattle.std.proofs.Common.{rules, ◌≡◌, false, ap, arith, length, refl}
use Rattle.rpki_der.specs.Extensions.{extension}
use Rattle.rpki_der.proofs.TooLong.{still_long}
use Rattle.rpki_der.proofs.ExtensionWritten.{extension_longer}
use Rattle.rpki_cert.specs.Rearranging.{written}
use Rattle.rpki_cert.proofs.elements.Added.push.Goals as goal

pub returns-clause-too_long : goal.returns-clause-too_long
returns-clause-too_long c =
    let identifier : c.as_bytes-identifier.result.now ≡ c.args.extra.now.oid = search rules in
    let value : c.deref.result.now ≡ c.args.extra.now.value = search rules in
    let whole : extension c.as_bytes-identifier.result.now false c.deref.result.now ≡ written c.args.extra.now =
    rw (identifier, value) refl in
    let longer = extension_longer c.as_bytes-identifier.result.now false c.deref.result.now in
    still_long c.put_extension.result _ _ c.put_extension.ensures.too_long.0 (omega (arith, longer, ap length whole))
