use Rattle.std.proofs.Common.{◌≡◌, ◌++◌, take, string_bytes}
use Rattle.rpki_document.specs.Views.{node_parts_text}
use Rattle.rpki_document.proofs.as_text.+write.Given as goal

abbrev pub invariant-write_parts-loop-it : goal.invariant-write_parts-loop-it
invariant-write_parts-loop-it l = string_bytes l.out ≡ string_bytes l.fn.out ++ node_parts_text (take l.it-index l.it-items)
