use Rattle.std.proofs.Common.{map, take, []}
use Rattle.rpki_document.specs.Building.{Adds}
use Rattle.rpki_document.specs.Documents.{kept_node, text}
use Rattle.rpki_answers.proofs.verdict_document.add_path.Given as goal

abbrev pub invariant-loop-file : goal.invariant-loop-file
invariant-loop-file l =
    Adds (map (λ file. kept_node [] (text file.name)) (take l.file-index l.members)) l.fn.parts.items l.parts.items
