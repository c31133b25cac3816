use Rattle.std.specs.Prelude.{OnOk}
use Rattle.std.proofs.Common.{◌≡◌, ◌∙◌, map, ap, append_assoc, sym}
use Rattle.std.proofs.lemmas.Simd.{map-map}
use Rattle.std.proofs.lemmas.Result.{IfOk-weaker}
use Rattle.rpki_document.proofs.Built.{ended_with}
use Rattle.rpki_document.specs.Building.{Adds}
use Rattle.rpki_keys.specs.Locators.{uri_text}
use Rattle.rpki_text.specs.KeyTexts.{IsLocatorKey}
use Rattle.rpki_answers.specs.ShownFiles.{tal_nodes, uri_line}
use Rattle.rpki_answers.proofs.showing.documents.add_tal.Goals as goal

pub returns : goal.returns
returns c =
    let tal = c.args.tal.now.tal in
    let found = c.answer_of_locator-found.result in
    let is : IsLocatorKey tal.key found = rw c.key_info.ensures at c.answer_of_locator-found.ensures in
    let lines : map (λ uri. uri_line (uri_text uri)) c.uris.result.now ≡ map uri_line tal.uris =
    sym (map-map uri_line uri_text c.uris.result.now) ∙ ap (map uri_line) c.uris.ensures in
    let said : OnOk c.add_tal_key.result
    (Adds (tal_nodes c.args.name.now tal found) c.args.parts.now.items c.add_tal_key.new.parts.items) =
    ended_with c.add_tal_key.result _ _ _ c.add_tal_key.ensures
    (rw (
      c.in_ok-add_each.ensures,
      c.in_ok-add_uris.ensures,
      lines,
      c.new-uris.ensures.items,
      c.in_ok-add_kept.ensures,
      c.in_ok-add_told.ensures,
    )
    (simp append_assoc)) in
    IfOk-weaker c.add_tal_key.result _ _ (λ _ added. (found, is, added)) said
