use Rattle.std.proofs.Common.{rules, tests, ◌≡◌, false, length, map}
use Rattle.std.proofs.lemmas.Iterator.Consumers.{YieldsList-so_far, YieldsList-turn, YieldsList-end}
use Rattle.std.proofs.lemmas.List.{map-append}
use Rattle.rpki_files.specs.PemFiles.{is_end_line}
use Rattle.rpki_files.proofs.PemLines.{ended_at, never_ended, digits_more, yields_behind_begin}
use Rattle.rpki_files.proofs.files.base64_in.Goals as goal

pub returns-then-is_end_line : goal.returns-then-is_end_line
returns-then-is_end_line c =
    let so_far = YieldsList-so_far
    (yields_behind_begin c.args.text.now c.into_iter-line-iterator.ensures.into_iter_gives
    c.skip-line-items.ensures.source c.skip-line-items.ensures.count c.skip_while-lines.ensures.source
    c.skip_while-lines.ensures.closure c.skip_while-lines.ensures.done_skipping c.split.ensures.rest
    c.split.ensures.done c.split.ensures.closure (λ x b q k. search (rules, tests))
    (λ x b q k. search (rules, tests))) c.loop-line.yielded _ c.loop-line.yielded_by in
    let turn = YieldsList-turn
    (yields_behind_begin c.args.text.now c.into_iter-line-iterator.ensures.into_iter_gives
    c.skip-line-items.ensures.source c.skip-line-items.ensures.count c.skip_while-lines.ensures.source
    c.skip_while-lines.ensures.closure c.skip_while-lines.ensures.done_skipping c.split.ensures.rest
    c.split.ensures.done c.split.ensures.closure (λ x b q k. search (rules, tests))
    (λ x b q k. search (rules, tests))) c.loop-line.yielded _ c.loop-line.yielded_by _ _ c.in-Some.line
    c.in-Some.is c.next.ensures.steps in
    ended_at c.loop-line.digits.items c.args.text.now c.in-Some.line.now _ (length c.loop-line.yielded)
    c.loop-line.invariant so_far turn (search rules)

pub loop-line-preserved : goal.loop-line-preserved
loop-line-preserved c =
    let fails : is_end_line c.in-Some.line.now ≡ false = search rules in
    rw map-append (digits_more c.loop-line.digits.items c.push_digits.new.digits.items c.in-Some.line.now
    (map (λ line. line.now) c.loop-line.yielded) c.loop-line.invariant (search rules) fails)

pub returns : goal.returns
returns c = λ other.
    let end = YieldsList-end
    (yields_behind_begin c.args.text.now c.into_iter-line-iterator.ensures.into_iter_gives
    c.skip-line-items.ensures.source c.skip-line-items.ensures.count c.skip_while-lines.ensures.source
    c.skip_while-lines.ensures.closure c.skip_while-lines.ensures.done_skipping c.split.ensures.rest
    c.split.ensures.done c.split.ensures.closure (λ x b q k. search (rules, tests))
    (λ x b q k. search (rules, tests))) c.loop-line.yielded _ c.loop-line.yielded_by _ _ c.in-None.is
    c.next.ensures.steps in
    never_ended c.loop-line.digits.items other c.args.text.now _ c.loop-line.invariant end.0
