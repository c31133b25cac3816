use Rattle.std.proofs.Common.{◌∙◌, ap}
use Rattle.rpki_blocks.specs.Sets.{is_in}
use Rattle.rpki_blocks.proofs.chain.Chain.from_iter.Goals as goal

pub from_iter-requires : goal.from_iter-requires
from_iter-requires g c = λ it gives. let ends = c.requires it gives in (ends.0, ends.1, λ xs t yields. tt)

pub returns-clause-union : goal.returns-clause-union
returns-clause-union g c =
    let ran = c.in_ok-all.ensures.ran in
    let last = ran.3.2 tt in
    (ran.0, ran.1, ran.2, (last.0, (ran.3.0, ran.3.1, last.1)), λ n. c.from_blocks.ensures.union n ∙ ap (is_in n) ran.4.0)
