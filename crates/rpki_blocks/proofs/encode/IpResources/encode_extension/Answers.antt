use Rattle.std.proofs.Common.{◌≡◌, ◌≢◌, ◌++◌, List, ℕ, true, refl, sym, ap, subst, ◌∙◌, rules}
use Rattle.rpki_der.specs.Extensions.{extension_part}
use Rattle.rpki_der.specs.Values.{sequence}
use Rattle.rpki_der.specs.Writers.{Part, Writes}
use Rattle.rpki_der.proofs.Ending.{ended}
use Rattle.rpki_der.proofs.ExtensionWritten.{content_longer}
use Rattle.rpki_blocks.specs.Addresses.{family, ip_addr_blocks}
use Rattle.rpki_blocks.specs.ResourceExtensions.{critical}
use Rattle.rpki_blocks.specs.Resources.{missing}
use Rattle.rpki_blocks.proofs.Enclosing.{ip_there}
use Rattle.rpki_blocks.proofs.Lengths.{still_long}
use Rattle.rpki_blocks.proofs.encode.IpResources.encode_extension.Goals as goal
use Rattle.rpki_blocks.proofs.encode.IpResources.encode_extension.Goals.{else-not-is_present-via-then-not-is_present+else-not-is_present-2}
use Rattle.rpki_blocks.proofs.encode.IpResources.encode_extension.Goals.{else-not-is_present-via-else-not-is_present}

pub returns : goal.returns
returns c =
    let content = sequence (family 1 c.args.v4.now ++ family 2 c.args.v6.now) in
    let id = c.ip_res_id.result.now in
    let written = ended (extension_part id true) c.len-start.result c.args.out.now.items content
    _ _ c.put_families-content.result c.end_extension.result (search rules) c.put_families-content.ensures.ok
    c.put_families-content.ensures.err
    (still_long c.put_families-content.result content _ c.put_families-content.ensures.too_long
    (content_longer id true content)) c.end_extension.ensures in
    let some : c.args.v4.now ≡ missing → c.args.v6.now ≢ missing = λ four six. elim c.else-not-is_present.branch [
      | else-not-is_present-via-then-not-is_present+else-not-is_present-2 w ↦ w.if-not-is_present-2.ensures.present.0 refl six
      | else-not-is_present-via-else-not-is_present w ↦ w.if-not-is_present.ensures.present.0 refl four
    ] in
    let there = ip_there id c.args.v4.now c.args.v6.now some in
    let P : Part → Type 0 = λ p. Writes p c.args.out.now.items c.end_extension.result c.end_extension.new.out.items in
    subst P (sym (ap (λ (i : List ℕ). critical i (ip_addr_blocks c.args.v4.now c.args.v6.now))
    (sym c.ip_res_id.ensures.identifier) ∙ there)) written
