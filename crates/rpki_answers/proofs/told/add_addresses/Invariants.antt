use Rattle.std.specs.Prelude.{None}
use Rattle.std.specs.Slice.Iter.{iter_rest}
use Rattle.std.proofs.Common.{◌≡◌, ◌++◌, map}
use Rattle.rpki_document.specs.Building.{nodes_of}
use Rattle.rpki_answers.specs.ToldValues.{addresses_node, set_nodes}
use Rattle.rpki_answers.proofs.told.add_addresses.Given as goal

-- the lines so far and those of the blocks that are left are those of all
abbrev pub invariant-loop-block : goal.invariant-loop-block
invariant-loop-block l =
    let node = addresses_node l.fn.family in
    nodes_of l.parts.items ++ map (node None) (iter_rest l.block-iterator)
    ≡ nodes_of l.fn.parts.items ++ set_nodes node l.fn.label l.fn.blocks
