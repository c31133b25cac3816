use Rattle.std.proofs.Common.{Some, ap, ◌∙◌}
use Rattle.rpki_blocks.proofs.Unions.{listed_merged}
use Rattle.rpki_blocks.proofs.elements.union_in.Goals as goal

pub returns : goal.returns
returns g c = c.in_ok-blocks.ensures.reads ∙
    ap Some (listed_merged c.in_ok-set.set c.in_ok-blocks.blocks.items c.blocks-2.result
    c.in_ok-set.ensures.set.chain (rw c.in_ok-set.ensures.same c.from_blocks.ensures.union) c.blocks-2.ensures)
