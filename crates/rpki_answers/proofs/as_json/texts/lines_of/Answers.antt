use Rattle.std.proofs.Common.{◌∙◌, ap, ◌++◌, List, ℕ}
use Rattle.std.proofs.lemmas.Result.{IfOk-weaker}
use Rattle.json.specs.Layout.{pretty}
use Rattle.serde_json.proofs.Texts.{tokens_from_order}
use Rattle.rpki_answers.specs.JsonTexts.{in_ascii, json_lines}
use Rattle.rpki_document.specs.Texts.{line_feed}
use Rattle.rpki_answers.proofs.as_json.texts.lines_of.Goals as goal

pub returns : goal.returns
unfolding json_lines
returns c = λ none.
    let written = c.in_ok-text.ensures in
    let is = written.layout ∙ ap pretty (tokens_from_order _ _ written.order none) in
    IfOk-weaker c.ended_ascii.result
    _ _ (λ _ made. made ∙ ap (λ (l : List ℕ). in_ascii l ++ line_feed) (c.as_str.ensures.value ∙ is))
    c.ended_ascii.ensures
