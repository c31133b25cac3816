use Rattle.std.proofs.Common.{rules, tests, sym, ◌∙◌}
use Rattle.std.proofs.lemmas.Iterator.{YieldsList-from_slice}
use Rattle.std.proofs.lemmas.Iterator.Search.{position_from_yields_List}
use Rattle.rpki_keys.proofs.LinesRead.{is_line_end, line_ends, one_line}
use Rattle.rpki_keys.proofs.tal.lines.first_line.Goals as goal

pub returns-in-Some-clause-lines : goal.returns-in-Some-clause-lines
returns-in-Some-clause-lines c =
    let text = c.args.text.now in
    let found = position_from_yields_List is_line_end _ _ c.position.result c.position.ensures.ran
    (YieldsList-from_slice text c.iter.ensures.rest) (λ x b q k. search (rules, tests)) in
    rw c.without_return.ensures (line_ends text c.in-Some.end (sym found ∙ c.in-Some.is))

pub returns-in-None-clause-lines : goal.returns-in-None-clause-lines
returns-in-None-clause-lines c =
    let text = c.args.text.now in
    let found = position_from_yields_List is_line_end _ _ c.position.result c.position.ensures.ran
    (YieldsList-from_slice text c.iter.ensures.rest) (λ x b q k. search (rules, tests)) in
    one_line text c.requires (sym found ∙ c.in-None.is)
