use Rattle.std.proofs.Common.{arith}
use Rattle.rpki_issuing.proofs.PrefixesRead.{only_range}
use Rattle.rpki_issuing.proofs.values.families.range.Goals as goal

pub returns : goal.returns
returns c = only_range c.args.family c.args.before.now c.args.behind.now _ _ _ _ c.from.result
    c.in_ok-first.ensures.one c.in_ok-last.ensures.one (omega arith) c.first_of.ensures c.last_of.ensures
    c.from.ensures.0 c.from.ensures.1
