use Rattle.std.proofs.Common.{◌≡◌, length, rules}
use Rattle.rpki_der.specs.Extensions.{extension_part}
use Rattle.rpki_der.specs.Values.{nested}
use Rattle.rpki_der.proofs.Ending.{ended}
use Rattle.rpki_der.proofs.ExtensionWritten.{content_longer}
use Rattle.rpki_der.proofs.IdentifierReads.{oid_takes}
use Rattle.rpki_der.proofs.TooLong.{still_long}
use Rattle.rpki_ext.proofs.encode.put_nested_extension.Goals as goal

pub end_extension-requires-clause-oid : goal.end_extension-requires-clause-oid
end_extension-requires-clause-oid c = oid_takes _ c.requires.oid

pub returns : goal.returns
returns c =
    let old = c.args.out.now.items in
    let inside = nested c.args.tags.now c.args.octets.now in
    let start : c.len-start.result ≡ length old = search rules in
    let content = c.append_nested-content.ensures in
    let long = still_long c.append_nested-content.result _ _ content.too_long (content_longer c.args.id.now c.args.critical inside) in
    ended (extension_part c.args.id.now c.args.critical) _ old inside _ _ c.append_nested-content.result
    c.end_extension.result start content.ok content.err long c.end_extension.ensures
