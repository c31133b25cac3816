use Rattle.std.specs.Option.{option_copied}
use Rattle.std.specs.Prelude.{Option}
use Rattle.std.proofs.Common.{◌∙◌, sym, ap, subst}
use Rattle.std.proofs.lemmas.Result.{IfOk-weaker}
use Rattle.rpki_verdicts.specs.declared.parts.TreePart.{TreePart}
use Rattle.rpki_answers.specs.TreeRows.{SaysPart}
use Rattle.rpki_answers.proofs.tree_rows.said_of_certificate.Goals as goal

pub returns-in-Some : goal.returns-in-Some
returns-in-Some c =
    let trees = c.args.trees.now in
    let place = c.args.place in
    let found = sym (ap option_copied c.in-Some.is) ∙ c.shown_part.ensures in
    IfOk-weaker c.said_by_answer.result
    _ _ (λ said says. subst (λ (o : Option TreePart). SaysPart trees place c.args.file.now o said) found says)
    c.said_by_answer.ensures

pub returns-in-None : goal.returns-in-None
returns-in-None c =
    let trees = c.args.trees.now in
    let place = c.args.place in
    let found = sym (ap option_copied c.in-None.is) ∙ c.shown_part.ensures in
    subst (λ (o : Option TreePart). SaysPart trees place c.args.file.now o c.said_unseen.result) found c.said_unseen.ensures
