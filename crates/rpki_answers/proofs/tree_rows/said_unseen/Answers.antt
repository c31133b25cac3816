use Rattle.std.specs.Option.{option_copied}
use Rattle.std.specs.Prelude.{Option}
use Rattle.std.proofs.Common.{◌∙◌, sym, ap, subst, refl}
use Rattle.rpki_verdicts.specs.declared.unordered.WrongAnchor.{WrongAnchor}
use Rattle.rpki_answers.specs.TreeRows.{SaysUnseen}
use Rattle.rpki_answers.specs.declared.tree_rows.Said.TheVariants.{Rejected, Unseen}
use Rattle.rpki_answers.proofs.tree_rows.said_unseen.Goals as goal

pub returns-in-Some : goal.returns-in-Some
returns-in-Some c =
    let found = sym (ap option_copied c.in-Some.is) ∙ c.wrong_at.ensures in
    subst (λ (o : Option WrongAnchor). SaysUnseen c.args.trees.now c.args.file.now o (Rejected c.in-Some.wrong.now.fault)) found refl

pub returns-in-None : goal.returns-in-None
returns-in-None c =
    let found = sym (ap option_copied c.in-None.is) ∙ c.wrong_at.ensures in
    subst (λ (o : Option WrongAnchor). SaysUnseen c.args.trees.now c.args.file.now o
    (Unseen c.unseen-why.result c.error_above.result)) found
    (c.unseen-why.result, c.error_above.result, c.unseen-why.ensures, c.error_above.ensures, refl)
