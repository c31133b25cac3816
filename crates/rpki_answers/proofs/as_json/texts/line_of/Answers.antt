use Rattle.std.proofs.Common.{◌∙◌, ap, ◌++◌, List, ℕ}
use Rattle.std.proofs.lemmas.Result.{IfOk-weaker}
use Rattle.rpki_answers.specs.JsonTexts.{in_ascii, json_line}
use Rattle.rpki_document.specs.Texts.{line_feed}
use Rattle.rpki_answers.proofs.as_json.texts.line_of.Goals as goal

pub returns : goal.returns
unfolding json_line
returns c = λ none.
    let is = c.in_ok-text.ensures.text none in
    IfOk-weaker c.ended_ascii.result
    _ _ (λ _ made. made ∙ ap (λ (l : List ℕ). in_ascii l ++ line_feed) (c.as_str.ensures.value ∙ is))
    c.ended_ascii.ensures
