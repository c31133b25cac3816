use Rattle.std.proofs.Common.{◌∙◌, [], ◌∷◌, map, ap, refl}
use Rattle.std.proofs.lemmas.List.{map-append}
use Rattle.serde_json.specs.View.{view}
use Rattle.rpki_answers.proofs.showing.push_value.Goals as goal

pub returns-clause-pushed : goal.returns-clause-pushed
returns-clause-pushed c =
    let value = c.in_ok-it.it.value in (
      view value ∷ [],
      (view value, c.in_ok-it.ensures.value, refl),
      ap (map view) c.in_ok-push.ensures.items ∙ map-append view c.args.values.now.items (value ∷ []),
    )
