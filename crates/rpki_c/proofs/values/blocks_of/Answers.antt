use Rattle.std.proofs.Common.{◌≡◌, ◌<◌, ◌≤◌, ◌++◌, ◌∷◌, [], List, get_or, sym, ap, ◌∙◌, subst}
use Rattle.rpki_blocks.specs.Sets.{Block}
use Rattle.rpki_c.specs.WantedQuestions.{AreOrdered}
use Rattle.rpki_c.proofs.OneMore.{map_more}
use Rattle.rpki_c.proofs.WantedBlocks.{ordered_more, disordered_at}
use Rattle.rpki_c.proofs.values.blocks_of.Goals as goal

pub returns-in_default : goal.returns-in_default
returns-in_default g c = λ w bs h.
    let span = g.T.Ranges.span in
    let d = c.range-item.result in
    disordered_at span c.args.ranges.now c.loop-range.range-index d c.loop-range-test.true
    (subst (λ r. (span r).max < (span r).min) c.range-item.is c.in_default.ensures)
    (subst AreOrdered h.0 h.1)

pub loop-range-preserved : goal.loop-range-preserved
loop-range-preserved g c =
    let span = g.T.Ranges.span in
    let rs = c.args.ranges.now in
    let i = c.loop-range.range-index in
    let d = c.range-item.result in
    let (b, same, more) = c.in_ok-push.ensures.ok in
    let block : c.in-Some.block ≡ span (get_or rs i d) = c.in-Some.ensures.0 ∙ ap span c.range-item.is in
    let ordered = subst (λ r. (span r).min ≤ (span r).max) c.range-item.is c.in-Some.ensures.1 in
    record {
      blocks_are =
          more ∙ ap (λ (z : Block). c.loop-range.blocks ++ z ∷ []) (same ∙ block)
          ∙ ap (λ (l : List Block). l ++ span (get_or rs i d) ∷ []) c.loop-range.invariant.blocks_are
          ∙ sym (map_more span rs i d c.loop-range-test.true);
      ordered = ordered_more span rs i d c.loop-range-test.true c.loop-range.invariant.ordered ordered;
    }
