use Rattle.std.proofs.Common.{⊎_elim}
use Rattle.rpki_answers.proofs.showing.subjects.subject_of_neither.Goals as goal

pub returns-in-Some : goal.returns-in-Some
returns-in-Some c = (c.requires.neither, rw c.octets.ensures at (rw c.in-Some.is at c.in_ok-whole.ensures.object))

pub subject_of_none-requires-clause-none : goal.subject_of_none-requires-clause-none
subject_of_none-requires-clause-none c =
    ⊎_elim c.requires.neither (rw c.octets.ensures at (rw c.in-None.is at c.in_ok-whole.ensures.object))
