use Rattle.std.proofs.Common.{rules, arith, ◌∙◌, refl, length-set}
use Rattle.std.proofs.lemmas.List.Sorted.{IsNonDecreasingBy-from_sort_by}
use Rattle.rpki_blocks.specs.Sets.{Block}
use Rattle.rpki_blocks.proofs.Merges.{start_at, join_at, new_at, end_at}
use Rattle.rpki_blocks.proofs.chain.sort_and_merge.Goals as goal
use Rattle.rpki_blocks.proofs.chain.sort_and_merge.Goals.{then-reaches, else-reaches}

pub merge-init : goal.merge-init
merge-init g c =
    let sorted = IsNonDecreasingBy-from_sort_by (λ (b : Block). b.min) _ c.sort_unstable_by.ensures.sorted (λ a r q k. search rules) in
    record {
      len = omega arith;
      room = refl;
      long = refl;
      behind = omega arith;
      merged =
          start_at _ _ _ (search rules) c.index-last.ensures sorted c.known.ensures.ordered c.known.ensures.small;
    }

pub merge-preserved : goal.merge-preserved
merge-preserved g c =
    elim c.if-reaches.branch [
      | then-reaches w ↦
          rw (w.blocks-is, w.last-is, w.kept-is)
          (record {
            len = c.merge.invariant.len;
            room = c.merge.invariant.room;
            long =
                c.merge.invariant.long;
            behind = omega arith;
            merged =
                join_at _ _ _ _ _ _ _ _ (omega arith) c.index-next.ensures c.merge.invariant.merged
                (c.reaches.ensures.reaches.0 w.if-reaches.true) c.reaches.ensures.ordered c.reaches.ensures.small
                w.join-last.ensures;
          })
      | else-reaches w ↦
          rw (w.blocks-is, w.last-is, w.kept-is)
          (record {
            len = length-set c.merge.blocks.items c.merge.kept c.merge.last ∙
                c.merge.invariant.len;
            room = c.merge.invariant.room;
            long = c.merge.invariant.long;
            behind =
                omega arith;
            merged = new_at _ _ _ _ _ _ _ (omega arith) c.index-next.ensures c.merge.invariant.behind
                c.merge.invariant.merged (search rules) c.reaches.ensures.ordered c.reaches.ensures.small;
          })
    ]

pub returns-clause-union : goal.returns-clause-union
returns-clause-union g c =
    rw c.truncate.ensures.items
    (end_at _ _ _ _ _ c.merge.i _ c.sort_unstable_by.ensures.permutation (search rules) (omega arith)
    c.merge.invariant.merged)
