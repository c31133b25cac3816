use Rattle.std.proofs.Common.{◌≡◌, ◌++◌, map, take, string_bytes}
use Rattle.rpki_document.specs.Documents.{spans_text}
use Rattle.rpki_document.specs.Views.{piece_view}
use Rattle.rpki_document.proofs.as_text.write_line.Given as goal

abbrev pub invariant-loop-piece : goal.invariant-loop-piece
invariant-loop-piece g l = string_bytes l.out ≡ string_bytes l.initial.out ++ spans_text (map piece_view (take l.piece-index l.pieces))
