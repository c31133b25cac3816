use Rattle.rpki_document.proofs.Built.{ended_some, none_added}
use Rattle.std.specs.Prelude.{codes}
use Rattle.std.proofs.Common.{[], ◌∷◌, ◌∙◌, inl, inr, refl, sym}
use Rattle.std.proofs.lemmas.Bool.{false≢true}
use Rattle.rpki_answers.specs.Verdicts.{IsNotAList, name_node}
use Rattle.rpki_answers.proofs.verdict_document.files.add_not_a_list.Goals as goal

pub returns-then-is_list : goal.returns-then-is_list
returns-then-is_list c =
    none_added (IsNotAList c.args.list.now) c.args.parts.now.items (inl (c.is_list.ensures.0 c.if-is_list.true, refl))

pub returns : goal.returns
returns c =
    let file = c.args.list.now in
    ended_some c.add_told.result (IsNotAList file) (name_node (codes "Not a CRL") file.name ∷ [])
    c.args.parts.now.items c.add_told.new.parts.items
    (inr ((λ begins. false≢true (sym c.if-is_list.false ∙ c.is_list.ensures.1 begins)), refl))
    (rw c.name.ensures at c.add_told.ensures)
