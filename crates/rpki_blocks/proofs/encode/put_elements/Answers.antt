use Rattle.std.proofs.Common.{◌++◌}
use Rattle.std.specs.List.{flat_map}
use Rattle.std.specs.Slice.Iter.{iter_rest}
use Rattle.rpki_der.proofs.Appending.{on_err}
use Rattle.rpki_blocks.specs.Sets.{between}
use Rattle.rpki_blocks.proofs.BlocksWritten.{one_more, parts_shorter, front_kept, appended_kept}
use Rattle.rpki_blocks.proofs.Lengths.{passed_long}
use Rattle.rpki_blocks.proofs.encode.put_elements.Goals as goal

pub loop-block-preserved : goal.loop-block-preserved
loop-block-preserved g c =
    let low = g.B.Bound.number c.min.result in
    let high = g.B.Bound.number c.max.result in
    let steps = c.in-Some.ensures.steps in
    let added = c.in_ok-put_block.ensures.ok in
    record {
      written = one_more g.B.Encode.written c.in-Some.block.now low high (iter_rest c.loop-block.block-iterator)
          (iter_rest c.next.new.self) c.loop-block.out.items c.put_block.new.out.items
          (c.args.out.now.items ++ flat_map g.B.Encode.written c.args.chain.now) c.min.ensures c.max.ensures steps
          added c.loop-block.invariant.written;
      rest = (parts_shorter g.B.Encode.written c.in-Some.block.now low high _ (iter_rest c.loop-block.block-iterator)
          (iter_rest c.next.new.self) c.min.ensures c.max.ensures steps c.loop-block.invariant.rest).1;
      front = appended_kept c.args.out.now.items c.loop-block.out.items (g.B.Encode.written (between low high))
          c.put_block.new.out.items added c.loop-block.invariant.front;
    }

pub returns-in_err-put_block-clause-err : goal.returns-in_err-put_block-clause-err
returns-in_err-put_block-clause-err g c = on_err c.from_residual-in_err-put_block.result
    (front_kept c.args.out.now.items c.loop-block.out.items c.put_block.new.out.items c.in_err-put_block.ensures.err
    c.loop-block.invariant.front)

pub returns-in_err-put_block-clause-too_long : goal.returns-in_err-put_block-clause-too_long
returns-in_err-put_block-clause-too_long g c =
    let low = g.B.Bound.number c.min.result in
    let high = g.B.Bound.number c.max.result in
    let shorter = (parts_shorter g.B.Encode.written c.in-Some.block.now low high
    _ (iter_rest c.loop-block.block-iterator) (iter_rest c.next.new.self) c.min.ensures c.max.ensures
    c.in-Some.ensures.steps c.loop-block.invariant.rest).0 in
    passed_long c.from_residual-in_err-put_block.result _ _ _ c.from_residual-in_err-put_block.ensures.1
    c.in_err-put_block.ensures.too_long shorter
