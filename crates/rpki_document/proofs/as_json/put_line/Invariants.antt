use Rattle.std.proofs.Common.{map, take}
use Rattle.std.specs.List.{flat_map}
use Rattle.rpki_document.specs.Documents.{span_members}
use Rattle.rpki_document.specs.Views.{Puts, piece_view}
use Rattle.rpki_document.proofs.as_json.put_line.Given as goal

abbrev pub invariant-loop-piece : goal.invariant-loop-piece
invariant-loop-piece l = Puts (flat_map span_members (map piece_view (take l.piece-index l.pieces))) l.fn.out l.out
