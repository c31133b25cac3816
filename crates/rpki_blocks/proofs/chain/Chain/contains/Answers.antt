use Rattle.std.proofs.Common.{rules, arith, nat_lt, sym, ◌∙◌}
use Rattle.std.proofs.lemmas.Bool.{le-ltb}
use Rattle.std.proofs.lemmas.List.Sorted.{IsPartitionPoint-from_clause, IsPartitionedBy-ltb}
use Rattle.rpki_blocks.specs.Sets.{Block}
use Rattle.rpki_blocks.proofs.Contains.{rising, contains_at, contains_past}
use Rattle.rpki_blocks.proofs.chain.Chain.contains.Goals as goal

pub returns-then-k-ours : goal.returns-then-k-ours
returns-then-k-ours g c =
    let n = g.B.Bound.number c.args.at in
    let items = c.blocks-ours.result.now in
    let chain = c.blocks-ours.ensures.set.chain in
    let parted = IsPartitionedBy-ltb (λ (b : Block). b.max) items n (rising _ chain) in
    let point = IsPartitionPoint-from_clause (λ (b : Block). nat_lt b.max n)
    _ _ c.partition_point-k.ensures.partitioned parted (λ a r q k. search rules) in
    rw (← c.blocks-ours.ensures.value)
    (contains_at n items c.partition_point-k.result c.index-ours-k.result c.is_below.result chain point.0
    point.1 (omega arith) c.index-ours-k.is (rw c.min.ensures at c.is_below.ensures))

pub returns-else-k-ours : goal.returns-else-k-ours
returns-else-k-ours g c =
    let n = g.B.Bound.number c.args.at in
    let items = c.blocks-ours.result.now in
    let parted = IsPartitionedBy-ltb (λ (b : Block). b.max) items n (rising _ c.blocks-ours.ensures.set.chain) in
    let point = IsPartitionPoint-from_clause (λ (b : Block). nat_lt b.max n)
    _ _ c.partition_point-k.ensures.partitioned parted (λ a r q k. search rules) in
    rw (← c.blocks-ours.ensures.value)
    (le-ltb _ _ c.if-k-ours.false ∙
    sym (contains_past n items c.partition_point-k.result point.0 (omega arith)))
