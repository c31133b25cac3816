use Rattle.std.proofs.Common.{rules, arith}
use Rattle.rpki_blocks.proofs.ChainWalks.{IsAt, IsDecided, past_at, held_at, none_at, at_both, decided_escapes}
use Rattle.rpki_blocks.proofs.ChainWalks.{says_no, undecided, says_yes}
use Rattle.rpki_blocks.proofs.chain.Chain.is_encompassed.Goals as goal

pub walk-preserved-then-is_before : goal.walk-preserved-then-is_before
walk-preserved-then-is_before g c =
    let place : IsAt c.blocks-ours.result.now c.blocks-theirs.result.now c.walk.i c.walk.j c.index-ours-i.result
    c.index-theirs-j.result =
    record {
      left_below = omega arith;
      right_below = omega arith;
      left = c.index-ours-i.is;
      right =
          c.index-theirs-j.is;
    } in
    record {
      in_range = omega arith;
      decided = past_at _ _ _ _ _ _ _ place c.walk.invariant.decided
          (c.is_before.ensures.0 c.if-is_before.true);
    }

pub walk-preserved : goal.walk-preserved
walk-preserved g c =
    let place : IsAt c.blocks-ours.result.now c.blocks-theirs.result.now c.walk.i c.walk.j c.index-ours-i.result
    c.index-theirs-j.result =
    record {
      left_below = omega arith;
      right_below = omega arith;
      left = c.index-ours-i.is;
      right =
          c.index-theirs-j.is;
    } in
    record {
      in_range = omega arith;
      decided = held_at _ _ _ _ _ _ _ place c.walk.invariant.decided
          c.if-is_within.ensures.0 c.if-is_within.ensures.1;
    }

pub returns-then-j-theirs : goal.returns-then-j-theirs
returns-then-j-theirs g c =
    let no = says_no _ _ _ (none_at _ _ _ c.walk.i c.walk.j (omega arith) (omega arith) c.walk.invariant.decided) in
    rw (← c.blocks-ours.ensures.value, ← c.blocks-theirs.ensures.value) (record { inside = no.0; outside = no.1 })

pub returns-else-is_within : goal.returns-else-is_within
returns-else-is_within g c =
    let place : IsAt c.blocks-ours.result.now c.blocks-theirs.result.now c.walk.i c.walk.j c.index-ours-i.result
    c.index-theirs-j.result =
    record {
      left_below = omega arith;
      right_below = omega arith;
      left = c.index-ours-i.is;
      right =
          c.index-theirs-j.is;
    } in
    let decided = at_both
    _ _ _ _ _ _ (IsDecided g.B.Bound.greatest c.blocks-ours.result.now c.blocks-theirs.result.now) place
    c.walk.invariant.decided in
    let no = says_no _ _ _ (decided_escapes _ _ _ c.index-ours-i.result _ c.index-theirs-j.result _ decided
    (search rules) c.if-is_within.ensures) in
    rw (← c.blocks-ours.ensures.value, ← c.blocks-theirs.ensures.value) (record { inside = no.0; outside = no.1 })

pub walk-init : goal.walk-init
walk-init g c = record { in_range = omega arith; decided = undecided _ _ _ c.blocks-ours.ensures.set c.blocks-theirs.ensures.set }

pub returns : goal.returns
returns g c =
    let yes = says_yes _ _ _ c.walk.i c.walk.j (omega arith) c.walk.invariant.decided in
    rw (← c.blocks-ours.ensures.value, ← c.blocks-theirs.ensures.value) (record { inside = yes.0; outside = yes.1 })
