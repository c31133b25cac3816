use Rattle.std.specs.List.{list_any}
use Rattle.std.proofs.Common.{rules, tests, ◌≡◌, nat_eq, sym, ◌∙◌}
use Rattle.std.proofs.lemmas.Iterator.Search.{any_from_yields_List}
use Rattle.std.proofs.lemmas.Iterator.Splits.{YieldsList-from_slice_split}
use Rattle.rpki_files.specs.PemFiles.{is_begin_line, text_lines}
use Rattle.rpki_files.proofs.files.has_begin_line.Goals as goal

pub returns : goal.returns
returns c =
    let text = c.args.text.now in
    let is : c.any.result ≡ list_any is_begin_line (text_lines text) =
    any_from_yields_List is_begin_line _ _ c.any.result c.any.ensures.ran
    (YieldsList-from_slice_split _ (λ x. nat_eq x 10) text c.split.ensures.rest c.split.ensures.done
    c.split.ensures.closure (λ x b q k. search (rules, tests))) (λ x b q k. search (rules, tests)) in
    ((λ yes. sym is ∙ yes), (λ yes. is ∙ yes))
