use Rattle.std.specs.List.{AllByRecursion, flat_map}
use Rattle.std.proofs.Common.{◌≡◌, ◌∙◌, ◌++◌, false, ℕ, List, sym, ap, subst}
use Rattle.std.proofs.lemmas.List.Folds.{flat_map-map}
use Rattle.serde_json.specs.View.{view}
use Rattle.serde_json.specs.Written.{has_float}
use Rattle.serde_json.specs.declared.value.Value.{Value}
use Rattle.rpki_answers.specs.JsonTexts.{json_value_text}
use Rattle.rpki_answers.proofs.as_json.texts.each_text.Goals as goal

pub returns : goal.returns
returns c = λ whole.
    let values = c.args.values.items in
    let same = c.deref.ensures.value in
    let part : Value → List ℕ = λ v. json_value_text c.args.format (view v) in
    let all = subst (λ (l : List Value). AllByRecursion (λ (v : Value). has_float (view v) ≡ false) l) (sym same) whole in
    c.in_ok-append_each.ensures all
    ∙ ap (λ (t : List ℕ). t ++ flat_map part c.deref.result.now) c.new-out.ensures.bytes
    ∙ ap (flat_map part) same
    ∙ sym (flat_map-map (json_value_text c.args.format) view values)
