use Rattle.std.proofs.Common.{◌∙◌, sym, ap, subst}
use Rattle.std.proofs.lemmas.Result.{IfOk-weaker}
use Rattle.rpki_answers.specs.JsonTexts.{json_lines}
use Rattle.rpki_answers.proofs.WholeValues.{IsWhole, array_whole, viewed_whole}
use Rattle.rpki_answers.proofs.as_json.texts.array_text.Goals as goal

pub returns : goal.returns
returns c = λ whole.
    let is = c.from-all.ensures in
    let none = subst IsWhole (sym is) (array_whole _ (viewed_whole c.args.values.items whole)) in
    IfOk-weaker c.lines_of-text.result _ _ (λ _ text. text ∙ ap json_lines is) (c.lines_of-text.ensures none)
