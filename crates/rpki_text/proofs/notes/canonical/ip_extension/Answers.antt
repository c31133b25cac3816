use Rattle.std.proofs.Common.{rules, ◌≡◌, [], subst}
use Rattle.std.specs.Prelude.{IfOk}
use Rattle.rpki_blocks.specs.Addresses.{ip_addr_blocks}
use Rattle.rpki_blocks.specs.Overclaims.{ip_identifier}
use Rattle.rpki_blocks.specs.Resources.{Resources}
use Rattle.rpki_blocks.specs.Unions.{text_of}
use Rattle.rpki_text.specs.FaultSearch.{IsExtensionOf}
use Rattle.rpki_text.proofs.Written.{ip_oid, kept_is}
use Rattle.rpki_text.proofs.notes.canonical.ip_extension.Goals as goal

pub returns : goal.returns
returns c =
    let mode = c.overclaim.result in
    let v4 = c.v4_resources-v4.result.now in
    let v6 = c.v6_resources-v6.result.now in
    let empty : c.new-written.result.items ≡ [] = search rules in
    let is = kept_is (ip_identifier mode) (ip_oid mode) (ip_addr_blocks v4 v6) c.new-written.result.items
    c.encode_extension-answer.new.out.items c.encode_extension-answer.result c.kept.result empty
    c.encode_extension-answer.ensures c.kept.ensures.well c.kept.ensures.same c.kept.ensures.octets in
    let first = subst (λ (r : Resources). IfOk c.kept.result (IsExtensionOf (text_of (ip_addr_blocks r v6))))
    c.v4_resources-v4.ensures is in
    subst (λ (r : Resources).
    IfOk c.kept.result (IsExtensionOf (text_of (ip_addr_blocks c.args.tbs.now.extensions.v4_resources r))))
    c.v6_resources-v6.ensures first
