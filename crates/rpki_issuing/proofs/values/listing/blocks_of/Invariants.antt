use Rattle.std.proofs.Common.{take, map}
use Rattle.std.specs.List.{AllZip}
use Rattle.rpki_issuing.specs.OnlyValues.{IsOnly}
use Rattle.rpki_issuing.proofs.values.listing.blocks_of.Given as goal

abbrev pub invariant-loop-text : goal.invariant-loop-text
invariant-loop-text g l =
    IsOnly (λ bs. AllZip g.T.BlockText.is_text bs (map (λ t. t.now) (take l.text-index l.texts))) l.blocks
