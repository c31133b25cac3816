use Rattle.std.proofs.Common.{rules, arith, inl, inr, ap}
use Rattle.rpki_blocks.proofs.ChainWalks.{IsAt, IsGrown, left_at, right_at, walk_set}
use Rattle.rpki_blocks.proofs.chain.Chain.intersection.Goals as goal
use Rattle.rpki_blocks.proofs.chain.Chain.intersection.Goals.{in-Some+in_ok-push-in-Some, in-None}

pub walk-preserved-then-ends_before : goal.walk-preserved-then-ends_before
walk-preserved-then-ends_before g c =
    let place : IsAt c.blocks-ours.result.now c.blocks-theirs.result.now c.walk.i c.walk.j c.index-ours-i.result
    c.index-theirs-j.result =
    record {
      left_below = omega arith;
      right_below = omega arith;
      left = c.index-ours-i.is;
      right =
          c.index-theirs-j.is;
    } in
    let grown : IsGrown c.index-ours-i.result c.index-theirs-j.result c.walk.both.items c.match-meet.both.items =
    elim c.match-meet.branch [
      | in-Some+in_ok-push-in-Some w ↦ inl
          (w.in-Some.block, w.in-Some.ensures, rw w.both-is w.in_ok-push-in-Some.ensures.items)
      | in-None w ↦ inr
          (w.in-None.ensures, ap (λ v. v.items) w.both-is)
    ] in
    left_at c.walk.both.items _ _ _ _ _ _ _ place c.walk.invariant grown (omega (arith, c.ends_before.ensures.0 c.if-ends_before.true))

pub walk-preserved : goal.walk-preserved
walk-preserved g c =
    let place : IsAt c.blocks-ours.result.now c.blocks-theirs.result.now c.walk.i c.walk.j c.index-ours-i.result
    c.index-theirs-j.result =
    record {
      left_below = omega arith;
      right_below = omega arith;
      left = c.index-ours-i.is;
      right =
          c.index-theirs-j.is;
    } in
    let grown : IsGrown c.index-ours-i.result c.index-theirs-j.result c.walk.both.items c.match-meet.both.items =
    elim c.match-meet.branch [
      | in-Some+in_ok-push-in-Some w ↦ inl
          (w.in-Some.block, w.in-Some.ensures, rw w.both-is w.in_ok-push-in-Some.ensures.items)
      | in-None w ↦ inr
          (w.in-None.ensures, ap (λ v. v.items) w.both-is)
    ] in
    right_at c.walk.both.items _ _ _ _ _ _ _ place c.walk.invariant grown (search rules)

pub of_set-requires : goal.of_set-requires
of_set-requires g c = walk_set _ _ _ _ _ _ c.blocks-ours.ensures.set c.walk.invariant
