use Rattle.std.proofs.Common.{◌≡◌, length, false, refl, rules}
use Rattle.rpki_der.specs.Extensions.{extension_part}
use Rattle.rpki_der.specs.Identifiers.{pkix}
use Rattle.rpki_der.proofs.Ending.{ended}
use Rattle.rpki_der.proofs.ExtensionWritten.{content_longer}
use Rattle.rpki_der.proofs.IdentifierReads.{oid_takes}
use Rattle.rpki_der.proofs.TooLong.{still_long}
use Rattle.rpki_ext.specs.ExtensionKinds.{authority_information_access_format}
use Rattle.rpki_ext.proofs.authority_access.encode_authority_information_access.Goals as goal

pub end_extension-requires-clause-oid : goal.end_extension-requires-clause-oid
end_extension-requires-clause-oid c = oid_takes _ refl

pub returns : goal.returns
returns c =
    let old = c.args.out.now.items in
    let inside = authority_information_access_format.written c.args.uri.now in
    let start : c.len-start.result ≡ length old = search rules in
    let content = c.append_content-content.ensures in
    let long = still_long c.append_content-content.result _ _ content.too_long (content_longer (pkix 0x01 0x01) false inside) in
    ended (extension_part (pkix 0x01 0x01) false) _ old inside _ _ c.append_content-content.result
    c.end_extension.result start content.ok content.err long c.end_extension.ensures
