use Rattle.std.proofs.Common.{◌≡◌, ◌∙◌, ap, false, subst, sym}
use Rattle.std.proofs.lemmas.Result.{IfOk-weaker}
use Rattle.serde_json.specs.Data.{Data}
use Rattle.serde_json.specs.Written.{has_float}
use Rattle.rpki_document.proofs.WholeValues.{json_whole}
use Rattle.rpki_document.specs.Building.{nodes_of}
use Rattle.rpki_document.specs.Documents.{document_of}
use Rattle.rpki_answers.specs.JsonTexts.{json_value_text}
use Rattle.rpki_answers.proofs.verdicts.json_text.Goals as goal

pub returns : goal.returns
returns c =
    let made = c.in_ok-value.ensures in
    IfOk-weaker c.value_text-text.result _ _ (λ _ written. written ∙ ap (λ (d : Data). json_value_text c.args.format d) made)
    (c.value_text-text.ensures
    (subst (λ (d : Data). has_float d ≡ false) (sym made)
    (json_whole (document_of (nodes_of c.args.parts.now.items)))))
