use Rattle.std.specs.List.{AllByRecursion, flat_map}
use Rattle.std.specs.Prelude.{string_bytes}
use Rattle.std.proofs.Common.{◌≡◌, ◌++◌, false, take}
use Rattle.serde_json.specs.View.{view}
use Rattle.serde_json.specs.Written.{has_float}
use Rattle.rpki_answers.specs.JsonTexts.{json_value_text}
use Rattle.rpki_answers.proofs.as_json.texts.append_each.Given as goal

abbrev pub invariant-loop-value : goal.invariant-loop-value
invariant-loop-value l =
    AllByRecursion (λ value. has_float (view value) ≡ false) l.values
    → string_bytes l.out ≡ string_bytes l.fn.out
    ++ flat_map (λ value. json_value_text l.format (view value)) (take l.value-index l.values)
