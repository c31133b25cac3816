use Rattle.std.specs.List.{AllByRecursion}
use Rattle.std.specs.Prelude.{map}
use Rattle.std.proofs.Common.{◌≡◌, ◌∙◌, ◌++◌, List, sym, ap, subst}
use Rattle.serde_json.specs.Data.{Data}
use Rattle.serde_json.specs.View.{view}
use Rattle.rpki_files.specs.Files.{contents}
use Rattle.rpki_answers.specs.JsonTexts.{values_text}
use Rattle.rpki_answers.proofs.ShownFiles.{files_whole, outcome_shown}
use Rattle.rpki_answers.proofs.WholeValues.{IsWhole, unviewed_whole}
use Rattle.rpki_answers.proofs.showing.json_of_files.Goals as goal

pub returns-clause-outcome : goal.returns-clause-outcome
returns-clause-outcome c = outcome_shown c.args.options.now.strict (contents c.args.objects.now) c.of_answer.result
    c.in_ok-can_be_shown.can_be_shown c.of_answer.ensures.success c.of_answer.ensures.rejection
    c.in_ok-can_be_shown.ensures.shows

pub returns-clause-json : goal.returns-clause-json
returns-clause-json c =
    let pushed = c.in_ok-can_be_shown.ensures.pushed in
    let values = c.push_values.new.values.items in
    let are : map view values ≡ pushed.0 = pushed.2 ∙ ap (λ (l : List _). map view l ++ pushed.0) c.new-values.ensures.items in
    let whole = files_whole c.args.options.now c.args.objects.now pushed.0 pushed.1 in
    let every = unviewed_whole values (subst (λ (l : List Data). AllByRecursion IsWhole l) (sym are) whole) in
    (pushed.0, pushed.1, c.in_ok-text.ensures every ∙ ap (values_text c.args.format c.args.is_single) are)
