use Rattle.std.proofs.Common.{map, sym, ◌∙◌}
use Rattle.std.proofs.lemmas.Bool.{false≢true}
use Rattle.rpki_issuing.proofs.ZippedTexts.{only_listed}
use Rattle.rpki_issuing.proofs.values.listing.listed.Goals as goal

pub returns : goal.returns
returns g c =
    only_listed c.one_chain.ensures g.T.BlockText.is_text (map (λ t. t.now) c.args.texts.now) c.in-Some.blocks
    c.in_ok-finalize.field-0 c.blocks-2.result
    (λ e. false≢true (sym c.if-inherits.false ∙ c.inherits.ensures.1 e))
    (rw c.in-Some.is at c.in_ok-blocks.ensures) c.in_ok-finalize.ensures.union c.in_ok-finalize.ensures.set.chain
    c.blocks-2.ensures
