use Rattle.std.specs.Option.{option_map, option_or}
use Rattle.std.specs.Prelude.{None, Option, fold}
use Rattle.std.proofs.Common.{◌≡◌, ◌∙◌, ◌<◌, ℕ, List, get_or, length, take, sym, ap, subst}
use Rattle.rpki_verdicts.specs.UnseenCertificates.{error_in}
use Rattle.rpki_verdicts.specs.declared.parts.TreePart.{TreePart}
use Rattle.rpki_verdicts.proofs.FoldedItems.{fold_more}
use Rattle.rpki_verdicts.proofs.parts.Trees.error_by_line.Goals as goal

pub loop-part-preserved : goal.loop-part-preserved
loop-part-preserved c =
    let parts = c.args.self.now.parts.items in
    let place = c.args.place in
    let i = c.loop-part.part-index in
    let part = c.part-item.result in
    let all = c.deref-part-items.ensures.value in
    let f : Option (List ℕ) → TreePart → Option (List ℕ) = λ error p. option_or error (error_in place p.answer) in
    let low : i < length parts = subst (λ (l : List TreePart). i < length l) all c.loop-part-test.true in
    let there : part ≡ get_or parts i part = subst (λ (l : List TreePart). part ≡ get_or l i part) all c.part-item.is in
    c.first_of-error.ensures
    ∙ ap (λ (o : Option (List ℕ)). option_or o (option_map (λ name. name.now) c.error_in.result)) c.loop-part.invariant
    ∙ ap (λ (o : Option (List ℕ)). option_or (fold f None (take i parts)) o) c.error_in.ensures
    ∙ sym (fold_more f None parts i part low there)
