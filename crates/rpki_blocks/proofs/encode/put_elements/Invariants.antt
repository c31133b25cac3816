use Rattle.std.proofs.Common.{◌≡◌, ◌≤◌, ◌++◌, take, length}
use Rattle.std.specs.Prelude.{flat_map}
use Rattle.std.specs.Slice.Iter.{iter_rest}
use Rattle.rpki_blocks.proofs.encode.put_elements.Given as goal

abbrev pub invariant-loop-block : goal.invariant-loop-block
invariant-loop-block g l = record {
  written : l.out.items ++ flat_map g.B.Encode.written (iter_rest l.block-iterator) ≡ l.fn.out.items ++
      flat_map g.B.Encode.written l.fn.chain;
  rest : length (flat_map g.B.Encode.written (iter_rest l.block-iterator)) ≤ length (flat_map g.B.Encode.written l.fn.chain);
  front : take (length l.fn.out.items) l.out.items ≡ l.fn.out.items;
}
