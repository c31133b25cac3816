use Rattle.std.specs.Prelude.{fold}
use Rattle.std.proofs.Common.{◌≡◌, ◌∙◌, ◌<◌, List, get_or, length, take, sym, ap, subst}
use Rattle.rpki_folder.specs.LimitTables.{both_reached, nothing}
use Rattle.rpki_folder.specs.declared.limits.Reached.{Reached}
use Rattle.rpki_verdicts.specs.UnseenCertificates.{reached_by}
use Rattle.rpki_verdicts.specs.declared.parts.TreePart.{TreePart}
use Rattle.rpki_verdicts.proofs.FoldedItems.{fold_more}
use Rattle.rpki_verdicts.proofs.parts.Trees.limit_at.Goals as goal

pub loop-part-preserved : goal.loop-part-preserved
loop-part-preserved c =
    let parts = c.args.self.now.parts.items in
    let place = c.args.place in
    let i = c.loop-part.part-index in
    let part = c.part-item.result in
    let all = c.deref-part-items.ensures.value in
    let f : Reached → TreePart → Reached = λ reached p. both_reached reached (reached_by place p.answer) in
    let low : i < length parts = subst (λ (l : List TreePart). i < length l) all c.loop-part-test.true in
    let there : part ≡ get_or parts i part = subst (λ (l : List TreePart). part ≡ get_or l i part) all c.part-item.is in
    c.and-reached.ensures
    ∙ ap (λ (r : Reached). both_reached r c.reached_by.result) c.loop-part.invariant
    ∙ ap (λ (r : Reached). both_reached (fold f nothing (take i parts)) r) c.reached_by.ensures
    ∙ sym (fold_more f nothing parts i part low there)
