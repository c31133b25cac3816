use Rattle.std.specs.Prelude.{OnOk}
use Rattle.std.proofs.Common.{append_assoc}
use Rattle.std.proofs.lemmas.Result.{IfOk-weaker}
use Rattle.rpki_document.proofs.Built.{ended_with}
use Rattle.rpki_document.specs.Building.{Adds}
use Rattle.rpki_answers.specs.ShownFiles.{no_tal_nodes}
use Rattle.rpki_answers.proofs.showing.documents.add_no_tal.Goals as goal

pub returns : goal.returns
returns c =
    let rule = c.of_tal.result in
    let said : OnOk c.add_rule.result
    (Adds (no_tal_nodes c.args.error.now rule) c.args.parts.now.items c.add_rule.new.parts.items) =
    ended_with c.add_rule.result _ _ _ c.add_rule.ensures
    (rw (c.in_ok-add_told-2.ensures, c.name.ensures, c.in_ok-add_told.ensures) (simp append_assoc)) in
    IfOk-weaker c.add_rule.result _ _ (λ _ added. (rule, c.of_tal.ensures, added)) said
