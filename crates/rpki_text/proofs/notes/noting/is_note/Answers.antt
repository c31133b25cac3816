use Rattle.rpki_text.proofs.notes.noting.is_note.Goals as goal

pub returns-in-FlagForm : goal.returns-in-FlagForm
returns-in-FlagForm c = rw c.in-FlagForm.is c.states_false.ensures
