use Rattle.std.specs.Prelude.{OnOk}
use Rattle.std.proofs.Common.{append_assoc, rules}
use Rattle.std.proofs.lemmas.Result.{IfOk-weaker}
use Rattle.rpki_document.proofs.Built.{ended_with}
use Rattle.rpki_document.specs.Building.{Adds}
use Rattle.rpki_text.specs.KeyTexts.{IsKeyAnswer}
use Rattle.rpki_answers.specs.Verdicts.{router_nodes}
use Rattle.rpki_answers.proofs.verdict_document.accepted.add_router.Goals as goal

pub returns : goal.returns
returns c =
    let key = c.answer_of-found.result in
    let is : IsKeyAnswer c.args.cert.now.fields.key key = search rules in
    let said : OnOk c.add_told.result
    (Adds (router_nodes c.args.cert.now key) c.args.parts.now.items c.add_told.new.parts.items) =
    ended_with c.add_told.result _ _ _ c.add_told.ensures
    (rw (
      c.in_ok-leaf.ensures,
      c.subject_key_identifier.ensures,
      c.in_ok-add_inside.ensures,
      c.in_ok-add_key.ensures,
      c.new-told.ensures.items,
      c.in_ok-said.ensures,
      c.subject_public_key_info-key.ensures,
      c.in_ok-add_each.ensures,
      c.in_ok-add_listed.ensures,
      c.new-listed.ensures.items,
      c.as_tbs-fields.ensures,
    )
    (simp append_assoc)) in
    IfOk-weaker c.add_told.result _ _ (λ _ added. (key, is, added)) said
