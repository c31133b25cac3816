use Rattle.std.specs.List.{list_any}
use Rattle.std.proofs.Common.{rules, tests, ◌≡◌, refl, sym, ◌∙◌}
use Rattle.std.proofs.lemmas.Iterator.Search.{any_from_yields_List}
use Rattle.rpki_files.specs.PemFiles.{is_begin_line, lines_behind_begin}
use Rattle.rpki_files.proofs.PemLines.{yields_behind_begin}
use Rattle.rpki_files.proofs.files.begins_again.Goals as goal

pub returns : goal.returns
returns c =
    let text = c.args.text.now in
    let is : c.any.result ≡ list_any is_begin_line (lines_behind_begin text) =
    any_from_yields_List is_begin_line _ _ c.any.result c.any.ensures.ran
    (yields_behind_begin text refl c.skip.ensures.source c.skip.ensures.count c.skip_while.ensures.source
    c.skip_while.ensures.closure c.skip_while.ensures.done_skipping c.split.ensures.rest c.split.ensures.done
    c.split.ensures.closure (λ x b q k. search (rules, tests)) (λ x b q k. search (rules, tests)))
    (λ x b q k. search (rules, tests)) in
    ((λ yes. sym is ∙ yes), (λ yes. is ∙ yes))
