use Rattle.std.specs.List.{flat_map}
use Rattle.std.specs.Prelude.{string_bytes}
use Rattle.std.proofs.Common.{◌∙◌, ◌++◌, ℕ, List, take, sym, ap, append_assoc}
use Rattle.serde_json.specs.View.{view}
use Rattle.serde_json.specs.declared.value.Value.{Value}
use Rattle.rpki_answers.specs.JsonTexts.{json_value_text}
use Rattle.rpki_answers.proofs.PartsOfEach.{parts_more, parts_all}
use Rattle.rpki_answers.proofs.WholeValues.{whole_at}
use Rattle.rpki_answers.proofs.as_json.texts.append_each.Goals as goal

pub loop-value-preserved : goal.loop-value-preserved
loop-value-preserved c = λ whole.
    let l = c.loop-value in
    let values = c.args.values.now in
    let value = c.value-item.result in
    let low = c.loop-value-test.true in
    let part : Value → List ℕ = λ v. json_value_text c.args.format (view v) in
    let none = whole_at values l.value-index value low c.value-item.is whole in
    c.in_ok-push_str.ensures.bytes
    ∙ ap (λ (t : List ℕ). string_bytes l.out ++ t) (c.as_str.ensures.value ∙ c.in_ok-text.ensures none)
    ∙ ap (λ (t : List ℕ). t ++ part value) (l.invariant whole)
    ∙ append_assoc (string_bytes c.args.out.now) (flat_map part (take l.value-index values)) (part value)
    ∙ ap (λ (t : List ℕ). string_bytes c.args.out.now ++ t) (sym (parts_more part values l.value-index value low c.value-item.is))

pub returns : goal.returns
returns c = λ whole.
    let l = c.loop-value in
    let part : Value → List ℕ = λ v. json_value_text c.args.format (view v) in
    l.invariant whole
    ∙ ap (λ (t : List ℕ). string_bytes c.args.out.now ++ t) (parts_all part c.args.values.now l.value-index c.loop-value-test.false)
