use Rattle.std.proofs.Common.{◌+◌, rules, arith}
use Rattle.rpki_blocks.proofs.Merges.{set_first, set_more, set_none, set_all}
use Rattle.rpki_blocks.proofs.chain.is_set.Goals as goal

pub check-init : goal.check-init
check-init g c = set_first _ _ c.index-blocks-0.result (search rules) c.index-blocks-0.is c.known.ensures.ordered c.known.ensures.small

pub check-preserved : goal.check-preserved
check-preserved g c = set_more _ _ c.check.i c.index-blocks-i.result c.index-blocks-i-in-check.result
    (omega (arith, c.check-test.true)) c.index-blocks-i.is c.index-blocks-i-in-check.is c.check.invariant
    (search rules) c.reaches.ensures.ordered c.reaches.ensures.small

pub returns-then-is_empty : goal.returns-then-is_empty
returns-then-is_empty g c = λ yes. set_none _ _ c.if-is_empty.ensures

pub returns : goal.returns
returns g c = λ yes. set_all _ _ (c.check.i + 1) (omega arith) c.check.invariant
