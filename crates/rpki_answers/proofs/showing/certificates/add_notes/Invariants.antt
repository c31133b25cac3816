use Rattle.std.proofs.Common.{map, take}
use Rattle.rpki_document.specs.Building.{Adds}
use Rattle.rpki_answers.specs.ShownCertificates.{note_line}
use Rattle.rpki_answers.proofs.showing.certificates.add_notes.Given as goal

abbrev pub invariant-loop-note : goal.invariant-loop-note
invariant-loop-note l = Adds (map note_line (take l.note-index l.notes)) l.fn.parts.items l.parts.items
