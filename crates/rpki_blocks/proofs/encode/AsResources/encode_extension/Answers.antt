use Rattle.std.proofs.Common.{List, ℕ, true, refl, sym, ap, subst, ◌∙◌, rules}
use Rattle.rpki_der.specs.Extensions.{extension_part}
use Rattle.rpki_der.specs.Tags.{CONTEXT_CONSTRUCTED, SEQUENCE}
use Rattle.rpki_der.specs.Values.{enc}
use Rattle.rpki_der.specs.Writers.{Part, Writes}
use Rattle.rpki_der.proofs.Ending.{ended}
use Rattle.rpki_der.proofs.ExtensionWritten.{content_longer}
use Rattle.rpki_blocks.specs.ResourceExtensions.{critical}
use Rattle.rpki_blocks.specs.Systems.{as_block, written_as}
use Rattle.rpki_blocks.specs.Unions.{text_of, written_choice}
use Rattle.rpki_blocks.proofs.Enclosing.{as_there}
use Rattle.rpki_blocks.proofs.Lengths.{still_long}
use Rattle.rpki_blocks.proofs.encode.AsResources.encode_extension.Goals as goal

pub returns : goal.returns
returns c =
    let content = enc SEQUENCE (enc (CONTEXT_CONSTRUCTED 0) (text_of (written_choice as_block c.args.self.now))) in
    let id = c.as_res_id.result.now in
    let written = ended (extension_part id true) c.len-start.result c.args.out.now.items content
    _ _ c.put_numbers-content.result c.end_extension.result (search rules) c.put_numbers-content.ensures.ok
    c.put_numbers-content.ensures.err
    (still_long c.put_numbers-content.result content _ c.put_numbers-content.ensures.too_long
    (content_longer id true content)) c.end_extension.ensures in
    let there = as_there id c.args.self.now (c.if-not-is_present.ensures.present.0 refl) in
    let P : Part → Type 0 = λ p. Writes p c.args.out.now.items c.end_extension.result c.end_extension.new.out.items in
    subst P (sym (ap (λ (i : List ℕ). critical i (written_as c.args.self.now)) (sym c.as_res_id.ensures.identifier) ∙ there)) written
