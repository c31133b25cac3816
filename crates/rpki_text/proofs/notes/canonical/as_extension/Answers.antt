use Rattle.std.proofs.Common.{rules, ◌≡◌, [], subst}
use Rattle.std.specs.Prelude.{IfOk}
use Rattle.rpki_blocks.specs.Overclaims.{as_identifier}
use Rattle.rpki_blocks.specs.Resources.{Resources}
use Rattle.rpki_blocks.specs.Systems.{written_as}
use Rattle.rpki_blocks.specs.Unions.{text_of}
use Rattle.rpki_text.specs.FaultSearch.{IsExtensionOf}
use Rattle.rpki_text.proofs.Written.{as_oid, kept_is}
use Rattle.rpki_text.proofs.notes.canonical.as_extension.Goals as goal

pub returns : goal.returns
returns c =
    let mode = c.overclaim.result in
    let r = c.as_resources.result.now in
    let empty : c.new-written.result.items ≡ [] = search rules in
    let is = kept_is (as_identifier mode) (as_oid mode) (written_as r) c.new-written.result.items
    c.encode_extension-answer.new.out.items c.encode_extension-answer.result c.kept.result empty
    c.encode_extension-answer.ensures c.kept.ensures.well c.kept.ensures.same c.kept.ensures.octets in
    subst (λ (r : Resources). IfOk c.kept.result (IsExtensionOf (text_of (written_as r)))) c.as_resources.ensures is
