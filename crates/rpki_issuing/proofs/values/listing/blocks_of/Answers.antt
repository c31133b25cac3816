use Rattle.std.proofs.Common.{◌≡◌, ◌+◌, ◌++◌, ◌∷◌, [], ℕ, List, Bor, map, take, get_or, sym, ap, ◌∙◌, subst}
use Rattle.std.specs.List.{AllZip}
use Rattle.rpki_blocks.specs.Sets.{Block}
use Rattle.rpki_issuing.specs.OnlyValues.{IsOnly}
use Rattle.rpki_issuing.proofs.ZippedTexts.{take_more, only_more, only_none, none_at}
use Rattle.rpki_issuing.proofs.values.listing.blocks_of.Goals as goal

pub loop-text-init : goal.loop-text-init
loop-text-init g c = rw c.new-blocks.ensures (only_none g.T.BlockText.is_text)

pub returns-in_default : goal.returns-in_default
returns-in_default g c = none_at g.T.BlockText.is_text c.args.texts.now c.loop-text.text-index
    _ c.loop-text-test.true c.in_default.ensures

pub loop-text-preserved : goal.loop-text-preserved
loop-text-preserved g c =
    let texts = c.args.texts.now in
    let i = c.loop-text.text-index in
    let (b, same, more) = c.in_ok-push.ensures.ok in
    let blocks = c.loop-text.blocks in
    let block = c.in-Some.block in
    let R = g.T.BlockText.is_text in
    let d : Bor (List ℕ) = record { ref_ptr = (0, 0); now = [] } in
    let text = (get_or texts i d).now in
    let front = map (λ (t : Bor (List ℕ)). t.now) (take i texts) in
    let whole : IsOnly (λ bs. AllZip R bs (front ++ text ∷ [])) (blocks ++ block ∷ []) =
    only_more R blocks front block text c.loop-text.invariant c.in-Some.ensures in
    let longer = subst (λ (l : List (List ℕ)). IsOnly (λ bs. AllZip R bs l) (blocks ++ block ∷ []))
    (sym (take_more texts i d c.loop-text-test.true)) whole in
    let pushed : c.push.new.self ≡ blocks ++ block ∷ [] = more ∙ ap (λ (z : Block). blocks ++ z ∷ []) same in
    subst (λ (l : List Block). IsOnly (λ bs. AllZip R bs (map (λ (t : Bor (List ℕ)). t.now) (take (i + 1) texts)))
    l) (sym pushed) longer
