use Rattle.std.proofs.Common.{map, take}
use Rattle.rpki_document.specs.Building.{Adds}
use Rattle.rpki_answers.specs.Verdicts.{note_node}
use Rattle.rpki_answers.proofs.verdict_document.files.add_each_note.Given as goal

abbrev pub invariant-loop-note : goal.invariant-loop-note
invariant-loop-note l = Adds (map (note_node l.name) (take l.note-index l.notes)) l.fn.parts.items l.parts.items
