use Rattle.std.proofs.Common.{take}
use Rattle.rpki_text.specs.Notes.{AreThose, IsNoteOf, every_note}
use Rattle.rpki_text.proofs.notes.noting.of_certificate.Given as goal

abbrev pub invariant-loop-note : goal.invariant-loop-note
invariant-loop-note l = AreThose (IsNoteOf l.octets) (take l.note-index every_note) l.notes.items
